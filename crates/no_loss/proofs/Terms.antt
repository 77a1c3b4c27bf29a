-- The numbers of the argument, in octet times: document 01's M, G, P, D, I and T, the sums W, O, H and K of them, and what accepted settings say of them.
use Prim.Native.Nat.{ℕ, suc, ◌+◌, ◌-◌, ◌*◌, ◌≤◌, ◌<◌}
use mathlib.Core.Path.{◌≡◌, ap, ◌∙◌}
use native.Mathlib.Nat.{suc-mul, mul-le-mul_right}
use native.Mathlib.Omega.{arith}

-- `losses` is k: how many PFC frames in a row may be lost; 0 in document 01
pub record Terms : Type 0 where
  pub M : ℕ
  pub G : ℕ
  pub P : ℕ
  pub D : ℕ
  pub I : ℕ
  pub T : ℕ
  pub losses : ℕ

-- the wire time of the largest frame
abbrev pub W : Terms → ℕ
W c = c.M + 20

-- the one-way time
abbrev pub O : Terms → ℕ
O c = c.G + W c + 84 + c.P

-- the longest time between two starts of PFC frames while something is wanted
abbrev pub K : Terms → ℕ
K c = c.I + c.G + W c

-- k * K: how much later a request may come for the losses
abbrev pub lost : Terms → ℕ
lost c = c.losses * K c

-- (k - j) * K: what is left of that once j PFC frames in a row have been lost
unfoldable pub slack : Terms → ℕ → ℕ
slack c j = (c.losses - j) * K c

-- the headroom
abbrev pub H : Terms → ℕ
H c = O c + lost c + W c + c.D

-- what accepted settings say: 13, 17, 16 (of which 84 octet times are not needed), and that nothing saturates
pub record Sound (c : Terms) : Type 0 where
  pub least : 64 ≤ c.M
  pub most : c.M ≤ 9216
  pub some_refresh : 1 ≤ c.I
  pub holds : K c + c.P + 64 + lost c ≤ 64 * c.T
  pub small_refresh : c.I ≤ 4194304
  pub small_room : H c + c.M ≤ 1099511627776

module _ (c : Terms) where
  -- it is never more than all of it
  pub slack_within : (j : ℕ) → slack c j ≤ lost c
  unfolding slack
  slack_within j = mul-le-mul_right (K c) (omega arith)

  -- a loss that is allowed costs K
  pub slack_lost : (j : ℕ) → j < c.losses → slack c j ≡ slack c (j + 1) + K c
  unfolding slack
  slack_lost j allowed =
      let one_less : c.losses - j ≡ suc (c.losses - (j + 1)) = omega arith in
      ap (λ (n : ℕ). n * K c) one_less ∙ suc-mul (c.losses - (j + 1)) (K c)
