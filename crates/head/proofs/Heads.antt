-- Two heads are equal where their fields are. Assumes nothing.
use Rattle.std.proofs.Common.{◌≡◌, ℕ, List}
use Rattle.head.specs.declared.Head.{Head}

pub heads_equal : (enabled : ℕ) {t u : List ℕ} {i j : ℕ} → t ≡ u → i ≡ j →
    ◌≡◌ {A = Head} (record { enabled = enabled; timers = t; indications = i }) (record { enabled = enabled; timers = u; indications = j })
heads_equal enabled p q = cc
