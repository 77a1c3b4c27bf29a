-- Document 01, "Numbers on each side of a limit": the cases marked P that the settings' definitions decide, a test a row.
use Rattle.std.specs.Prelude.{ℕ, Bool, List, [], ◌∷◌, eqb}
use Rattle.ground.specs.Eight.{eight}
use Rattle.settings.specs.Settings.{settings_refusal}
use Rattle.settings.specs.declared.Settings.{Settings}

-- the settings of document 004's example, with a pause time T, a refresh I and rooms of one size: enabled 08, M 2000, generation 200,
-- request path 49,588, data path 43,444, hysteresis 0
abbrev pub settings004 : ℕ → ℕ → ℕ → Settings
settings004 pause refresh room =
    record {
      enabled = 8;
      largest = 2000;
      generation = record { 0 = 200 };
      request_path = record { 0 = 49588 };
      data_path = record { 0 = 43444 };
      pause = pause;
      refresh = record { 0 = refresh };
      hysteresis = 0;
      rooms = eight (λ n. room);
    }

abbrev pub settings_cases : List Bool
settings_cases =
    -- P "with these, T 132 and I 56 pass"
    eqb (settings_refusal (settings004 132 56 17779)) 0
    -- "I 57 gives 16"
    ∷ eqb (settings_refusal (settings004 132 57 17779)) 16
    -- "T 131 with I 1 gives 16"
    ∷ eqb (settings_refusal (settings004 131 1 17779)) 16
    -- P "room 17,779 with hysteresis 0 passes"
    ∷ eqb (settings_refusal (settings004 132 1 17779)) 0
    -- "17,778 gives 15"
    ∷ eqb (settings_refusal (settings004 132 1 17778)) 15
    ∷ []
