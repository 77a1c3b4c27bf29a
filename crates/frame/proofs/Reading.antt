-- What a verdict says of the frame that it was given of.
use Prim.Native.Nat.{ℕ, ◌≤◌, ◌<◌, ◌-◌}
use mathlib.Core.Path.{◌≡◌, refl, sym, ap, ◌∙◌}
use mathlib.Core.Bool.{Bool, true, false, not, ◌&&◌}
use mathlib.Core.List.{List, [], ◌∷◌}
use native.Mathlib.Omega.{arith}
use lib.Dec.{ltb, eqb}
use lib.ListN.{length, get_or, drop, length-drop}
use lib.Seq.{drop-length}
use borrow.Author.Tests.{ltb-false}
use Rattle.std.specs.Prelude.{Option, Some, None, Result, Ok, Err, IsErrAnd}
use Rattle.ground.specs.Pick.{pick}
use Rattle.ground.specs.First.{GivenExactly, ◌gives◌, are_apart, first_of, is_among}
use Rattle.ground.proofs.Eight.{get_d_eight}
use Rattle.ground.proofs.First.{given_exactly}
use Rattle.refusals.specs.declared.Refusal.{Refusal}
use Rattle.refusals.specs.Refusals.{number_of}
pub use Rattle.refusals.specs.Refusals.{refused_or, numbered_in}
use Rattle.refusals.proofs.Refused.{err_is, handed_on, ok_is, order_number}
use Rattle.octets.specs.Numbers.{address_at}
use Rattle.frame.specs.Layout.{destination, opcode, pfc_opcode}
use Rattle.limits.specs.Limits.{refused13}
use Rattle.frame.specs.Read.{is_accepted, is_control, is_elsewhere, is_other, order_by, reading_order}
use Rattle.frame.specs.Read.{request_of, request_in, taken, verdict, part_for, part_of}
use Rattle.frame.specs.declared.Request.{Request}

-- none of 13, 1 and 2: M and the frame's length are within their limits
pub record Sized (size M : ℕ) : Type 0 where
  pub least : 64 ≤ M
  pub most : M ≤ 9216
  pub whole : 60 ≤ size
  pub fits : size ≤ M - 4

pub sized : (size M : ℕ) (elsewhere other : Bool) →
    first_of (order_by (refused13 M) (ltb size 60) (ltb (M - 4) size) elsewhere other) ≡ 0 → Sized size M
unfolding first_of order_by pick
sized size M elsewhere other = go (ltb M 64) refl (ltb 9216 M) refl (ltb size 60) refl (ltb (M - 4) size) refl
  where
    later : ℕ
    later = pick elsewhere 3 (pick other 4 0)

    go : (a : Bool) → ltb M 64 ≡ a → (b : Bool) → ltb 9216 M ≡ b → (c : Bool) → ltb size 60 ≡ c → (d : Bool) → ltb (M - 4) size ≡ d →
        ◌≡◌ {A = ℕ} (pick (pick a true b) 13 (pick c 1 (pick d 2 later))) 0 → Sized size M
    go true p b q c r d s e = omega arith
    go false p true q c r d s e = omega arith
    go false p false q true r d s e = omega arith
    go false p false q false r true s e = omega arith
    go false p false q false r false s e = omega (arith, ltb-false)

-- the order is 13, 1 and 2, and where none of them holds 3 and 4
sized_first : (outside short long elsewhere other : Bool) → (first_of (outside gives 13 ∷ short gives 1 ∷ long gives 2 ∷ []) ≡ 0 → ⊥) →
    first_of (outside gives 13 ∷ short gives 1 ∷ long gives 2 ∷ []) ≡ first_of (order_by outside short long elsewhere other)
unfolding first_of order_by pick
sized_first true short long elsewhere other some = refl
sized_first false true long elsewhere other some = refl
sized_first false false true elsewhere other some = refl
sized_first false false false elsewhere other some = absurd (some refl)

control_first : (outside short long elsewhere other : Bool) → first_of (outside gives 13 ∷ short gives 1 ∷ long gives 2 ∷ []) ≡ 0 →
    first_of (elsewhere gives 3 ∷ other gives 4 ∷ []) ≡ first_of (order_by outside short long elsewhere other)
unfolding first_of order_by pick
control_first true short long elsewhere other none = absurd (omega arith)
control_first false true long elsewhere other none = absurd (omega arith)
control_first false false true elsewhere other none = absurd (omega arith)
control_first false false false elsewhere other none = refl

module _ (frame : List ℕ) (M : ℕ) (own : List ℕ) where
  pub read_number : number_of (verdict frame M own) ≡ first_of (reading_order frame M own)
  unfolding verdict order_by
  read_number = order_number (reading_order frame M own) (taken frame) (verdict frame M own) refl refl

  -- an answer that is the frame's bears the order's number
  pub bears : {found : Result (Option Request) Refusal} → found ≡ verdict frame M own → number_of found ≡ first_of (reading_order frame M own)
  bears is = ap number_of is ∙ read_number

  -- what 13, 1 and 2 refuse the whole order refuses by the same number, by the values of the tests
  pub size_handed : {refusal : Refusal} {found : Result (Option Request) Refusal} {outside long : Bool} → outside ≡ refused13 M →
      long ≡ ltb (M - 4) (length frame) → IsErrAnd found (λ e. e ≡ refusal) →
      Err refusal ≡ refused_or (first_of (outside gives 13 ∷ ltb (length frame) 60 gives 1 ∷ long gives 2 ∷ [])) (tt {0}) → found ≡ verdict frame M own
  unfolding verdict
  size_handed {refusal} {found} u l is e =
      let whole =
      sized_first _ _ _ _ _ (err_is _ (tt {0}) e).0 ∙
      (λ i. first_of (order_by (u i) (ltb (length frame) 60) (l i) (is_elsewhere (address_at own 0) frame) (is_other frame))) in
      handed_on _ (tt {0}) (taken frame) refusal found is (e ∙ ap (λ (n : ℕ). refused_or n (tt {0})) whole)

  -- where they refuse nothing, the order's number is that of 3 and 4
  pub control_number : {outside long control elsewhere other : Bool} → outside ≡ refused13 M → long ≡ ltb (M - 4) (length frame) →
      Ok (tt {0}) ≡ refused_or (first_of (outside gives 13 ∷ ltb (length frame) 60 gives 1 ∷ long gives 2 ∷ [])) (tt {0}) → control ≡ is_control frame →
      elsewhere ≡ (control && not (is_accepted (address_at own 0) (destination frame))) → other ≡ (control && not (eqb (opcode frame) pfc_opcode)) →
      first_of (elsewhere gives 3 ∷ other gives 4 ∷ []) ≡ first_of (reading_order frame M own)
  unfolding is_elsewhere is_other
  control_number u l passed control e o =
      let elsewhere = e ∙ ap (λ (b : Bool). b && not (is_accepted (address_at own 0) (destination frame))) control in
      let other = o ∙ ap (λ (b : Bool). b && not (eqb (opcode frame) pfc_opcode)) control in
      let size : first_of (refused13 M gives 13 ∷ ltb (length frame) 60 gives 1 ∷ ltb (M - 4) (length frame) gives 2 ∷ []) ≡ 0 =
      (λ i. first_of (sym u i gives 13 ∷ ltb (length frame) 60 gives 1 ∷ sym l i gives 2 ∷ [])) ∙ (ok_is _ (tt {0}) passed).0 in
      (λ i. first_of (elsewhere i gives 3 ∷ other i gives 4 ∷ [])) ∙ control_first _ _ _ _ _ size

  -- what is taken, by whether it is a control frame
  pub taken_by : {found : Option Request} {control : Bool} → control ≡ is_control frame → found ≡ pick control (Some (request_in frame)) None →
      found ≡ taken frame
  unfolding taken
  taken_by control is = is ∙ ap (λ (b : Bool). pick b (Some (request_in frame)) None) control

-- "Each is given exactly when its condition holds and none earlier in the order does": 13, 1, 2, 3, 4
pub reading_given : (frame : List ℕ) (M : ℕ) (own : List ℕ) → GivenExactly (reading_order frame M own) (number_of (verdict frame M own))
unfolding order_by are_apart is_among pick
reading_given frame M own = given_exactly (reading_order frame M own) refl (read_number frame M own)

-- data is 60 octets or more
pub data_is_sized : (frame : List ℕ) (M : ℕ) (own : List ℕ) → verdict frame M own ≡ Ok None → Sized (length frame) M
data_is_sized frame M own is_data =
    sized (length frame) M (is_elsewhere (address_at own 0) frame) (is_other frame) (sym (read_number frame M own) ∙ ap number_of is_data)

-- the part starts within the frame, and is what is left from there on
pub part_within : (frame : List ℕ) (M : ℕ) (own : List ℕ) → (start : ℕ) × (start ≤ length frame) × (part_of frame M own ≡ drop start frame)
unfolding part_for
part_within frame M own = go (verdict frame M own) refl
  where
    go : (found : Result (Option Request) Refusal) → verdict frame M own ≡ found →
        (start : ℕ) × (start ≤ length frame) × (part_for found frame ≡ drop start frame)
    go (Ok None) is = (12, omega (arith, (data_is_sized frame M own is).whole), refl)
    go (Ok (Some request)) is = (length frame, omega arith, sym (drop-length frame))
    go (Err refusal) is = (length frame, omega arith, sym (drop-length frame))

-- the part of data, of a request and of a refusal
pub data_part : (frame : List ℕ) (M : ℕ) (own : List ℕ) → verdict frame M own ≡ Ok None → part_of frame M own ≡ drop 12 frame
unfolding part_for
data_part frame M own found = rw found

pub request_part : (frame : List ℕ) (M : ℕ) (own : List ℕ) {asked : Request} → verdict frame M own ≡ Ok (Some asked) → part_of frame M own ≡ []
unfolding part_for
request_part frame M own found = rw found

pub refused_part : (frame : List ℕ) (M : ℕ) (own : List ℕ) {refusal : Refusal} → verdict frame M own ≡ Err refusal → part_of frame M own ≡ []
unfolding part_for
refused_part frame M own found = rw found

-- The two questions agree: the part is non-empty exactly where the frame is data.
pub data_has_part : (frame : List ℕ) (M : ℕ) (own : List ℕ) → verdict frame M own ≡ Ok None → part_of frame M own ≡ [] → ⊥
data_has_part frame M own found empty =
    omega (arith, length-drop 12 frame, ap length (sym (data_part frame M own found) ∙ empty), (data_is_sized frame M own found).whole)

pub part_is_data : (frame : List ℕ) (M : ℕ) (own : List ℕ) → (part_of frame M own ≡ [] → ⊥) → verdict frame M own ≡ Ok None
part_is_data frame M own nonempty = go (verdict frame M own) refl
  where
    go : (found : Result (Option Request) Refusal) → verdict frame M own ≡ found → found ≡ Ok None
    go (Ok None) found = refl
    go (Ok (Some request)) found = absurd (nonempty (request_part frame M own found))
    go (Err refusal) found = absurd (nonempty (refused_part frame M own found))

-- a request's times are those that it was made of
pub times_kept : (e : ℕ) (times : List ℕ) (p : ℕ) → p < 8 → get_or (request_of e times).times p 0 ≡ get_or times p 0
times_kept e times = get_d_eight (λ n. get_or times n 0) 0
