-- What an enabled priority is beside one of the eight: its bit is set; and of no bits none is. Assumes nothing.
use Prim.Native.Nat.{ℕ}
use mathlib.Core.Path.{◌≡◌, refl, sym, ◌∙◌}
use mathlib.Core.Bool.{Bool, true, false, false≢true}
use lib.Dec.{ltb}
use Rattle.ground.specs.Pick.{pick}
use Rattle.ground.specs.Eight.{is_set}
use Rattle.ground.proofs.Eight.{below_eight}
use Rattle.settings.specs.Settings.{is_enabled}
use Rattle.settings.proofs.SettingsLaws.{enabled_below}

-- its bit of the enabled octet is set
pub enabled_set : (enabled priority : ℕ) → is_enabled enabled priority ≡ true → is_set enabled priority ≡ true
unfolding is_enabled pick
enabled_set enabled priority = go (ltb priority 8)
  where
    go : (below : Bool) → pick below (is_set enabled priority) false ≡ true → is_set enabled priority ≡ true
    go true set = set
    go false none = absurd (false≢true none)

-- no bit of the octet 0 is set
pub none_enabled : (priority : ℕ) → is_enabled 0 priority ≡ true → ⊥
unfolding is_enabled pick
none_enabled priority on =
    let off = below_eight (λ n. is_enabled 0 n ≡ false) refl refl refl refl refl refl refl refl priority (enabled_below 0 priority on) in
    false≢true (sym off ∙ on)
