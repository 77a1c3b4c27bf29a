-- Document 01, "Numbers on each side of a limit": the cases marked P that belong to the frame, as rows of the one table.
use Rattle.std.specs.Prelude.{ℕ, Bool, List, [], ◌∷◌, replicate, set, Option, Some, None, Result, Ok, Err}
use Rattle.ground.specs.Eight.{eight, bit_of}
use Rattle.ground.specs.Table.{same}
use Rattle.frame_build.specs.Build.{built_frame}
use Rattle.frame.specs.Read.{verdict}
use Rattle.frame.specs.declared.Request.{Request}
use Rattle.refusals.specs.declared.Refusal.{Refusal}

-- the eight e bits of a request; nothing of data or a refusal
unfoldable pub enabled_in : Result (Option Request) Refusal → List ℕ
enabled_in (Ok None) = []
enabled_in (Ok (Some request)) = eight (bit_of request.e)
enabled_in (Err refusal) = []

-- a frame with the given enable vector
unfoldable pub frame_with_vector : ℕ → ℕ → List ℕ
frame_with_vector first second = set (built_frame (replicate 6 0) second (replicate 8 0)) 16 first

unfoldable pub frame_cases : List Bool
frame_cases =
    -- "P enable vector FF-08: only priority 3 is set"
    same (enabled_in (verdict (frame_with_vector 0xFF 0x08) 2000 (replicate 6 0))) (0 ∷ 0 ∷ 0 ∷ 1 ∷ 0 ∷ 0 ∷ 0 ∷ 0 ∷ []) ∷ []
