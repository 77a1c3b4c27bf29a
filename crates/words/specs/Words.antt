-- How a word of the command line is read: a decimal number, or `rows:` and a digit for each row of Table N-1.
use Rattle.std.specs.Prelude.{ℕ, ◌+◌, ◌-◌, ◌*◌, ◌^◌, Bool, false, List, [], ◌∷◌, map, ltb, eqb, length, get_or, drop, Result, Ok, Err}
use Rattle.ground.specs.Pick.{pick}
use Rattle.ground.specs.First.{Condition, ◌gives◌}
use Rattle.units.specs.Counts.{bits}
use Rattle.interface_rows.specs.Stack.{index_from, stack_over, stack_answer}
use Rattle.interface_rows.specs.declared.Delays.{Delays}
use Rattle.interface_rows.specs.declared.StackError.{StackError}
use Rattle.interface_rows.specs.declared.StackError.TheVariants.{Unknown}
use Rattle.headroom_sum.specs.declared.Inputs.{Inputs}
use Rattle.words.specs.declared.WordError.{WordError}
use Rattle.words.specs.declared.WordError.TheVariants.{NotANumber, TooLarge}

-- the largest number of 64 bits
abbrev pub largest64 : ℕ
largest64 = 2 ^ 64 - 1

-- the octets of the digits 0, 1 and 9
abbrev pub zero' : ℕ
zero' = 48

abbrev pub one' : ℕ
one' = 49

abbrev pub nine' : ℕ
nine' = 57

-- a number so far, followed by one more digit
abbrev pub extended : ℕ → ℕ → ℕ
extended so_far octet = 10 * so_far + (octet - zero')

-- what is left of a word, read after a number so far: the first octet that is no digit, or that makes the number too large, decides
unfoldable pub number_from : ℕ → List ℕ → Result ℕ WordError
number_from so_far [] = Ok so_far
number_from so_far (octet ∷ rest) =
    pick (ltb octet zero') (Err NotANumber)
    (pick (ltb nine' octet) (Err NotANumber)
    (pick (ltb largest64 (extended so_far octet)) (Err TooLarge)
    (number_from (extended so_far octet) rest)))

-- a word of digits is a number; the empty word is none
unfoldable pub number_of : List ℕ → Result ℕ WordError
number_of word = pick (eqb (length word) 0) (Err NotANumber) (number_from 0 word)

-- the word begins with `rows:`, of so many octets
abbrev pub prefix : ℕ
prefix = 5

unfoldable pub is_rows : List ℕ → Bool
is_rows word =
    pick (ltb (length word) prefix) false
    (pick (eqb (get_or word 0 0) 0x72)
    (pick (eqb (get_or word 1 0) 0x6F)
    (pick (eqb (get_or word 2 0) 0x77)
    (pick (eqb (get_or word 3 0) 0x73)
    (eqb (get_or word 4 0) 0x3A)
    false) false) false) false)

-- the delays of the stack whose rows the digits after `rows:` name, counted from 1; a word too short for that names none
unfoldable pub rows_answer : List ℕ → Result Delays StackError
rows_answer word = pick (ltb (length word) prefix) (Err Unknown) (stack_answer (map (index_from one') (drop prefix word)))

-- the one refusal of such a stack
abbrev pub rows_order : List ℕ → List Condition
rows_order word = pick (ltb (length word) prefix) false (stack_over (map (index_from one') (drop prefix word))) gives 14 ∷ []

-- document 01's number of what a word says: it knows no words, and has a number for none of them
unfoldable pub word_number_of : Result ℕ WordError → ℕ
word_number_of (Ok number) = 0
word_number_of (Err error) = 0

-- the inputs in the order of the arguments: RATE METRES PERCENTAGE M GENERATION B_TRANSMIT B_RECEIVE A_TRANSMIT A_RECEIVE HALT
abbrev pub inputs_of : List ℕ → Inputs
inputs_of numbers =
    record {
      rate = get_or numbers 0 0;
      metres = get_or numbers 1 0;
      percentage = get_or numbers 2 0;
      largest = get_or numbers 3 0;
      generation = bits (get_or numbers 4 0);
      b_transmit = bits (get_or numbers 5 0);
      b_receive = bits (get_or numbers 6 0);
      a_transmit = bits (get_or numbers 7 0);
      a_receive = bits (get_or numbers 8 0);
      halt = bits (get_or numbers 9 0);
    }
