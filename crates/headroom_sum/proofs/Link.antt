-- Laws of the link's bits: all that any other file knows of them. For link_bits and its callers, and for a site that has a figure from
-- before L1. Assumes nothing.
use Prim.Native.Nat.{ℕ, ◌+◌, ◌-◌, ◌*◌, ◌/◌, ◌^◌, ◌≤◌, ◌<◌}
use native.Mathlib.Nat.{mul-le-mul, mul-le-mul_left, mul-le-mul_right, div-lt_iff_lt-mul, lt-div-mul-add, div-mul-le_self}
use native.Mathlib.Omega.{arith}
use Rattle.limits.specs.Limits.{largest_path}
use Rattle.headroom_sum.specs.Link.{rounded_up, link_bits, link_bits_before, light_speed}
use Rattle.headroom_sum.specs.Rates.{largest_rate}
use Rattle.headroom_sum.specs.Headroom.{largest_metres, least_percentage}

-- a quotient rounded up is the least that covers the count
pub rounded_up_lem : (count parts : ℕ) → 0 < parts → (count ≤ rounded_up count parts * parts) × (rounded_up count parts * parts < count + parts)
rounded_up_lem count parts h =
    let over : count + (parts - 1) < rounded_up count parts * parts + parts = lt-div-mul-add h
    in let under : rounded_up count parts * parts ≤ count + (parts - 1) = div-mul-le_self (count + (parts - 1)) parts
    in (omega arith, omega arith)

pub rounded_up_least : (count parts : ℕ) {most : ℕ} → 0 < parts → count ≤ most * parts → rounded_up count parts ≤ most
rounded_up_least count parts {most} h covers =
    let below : count + (parts - 1) < (most + 1) * parts = omega arith
    in let under : rounded_up count parts < most + 1 = (div-lt_iff_lt-mul {k = parts} h).1 below
    in omega arith

-- the link's bits are the least that cover metres × rate × 100,000,000 shared out by percentage × light
module _ (metres rate : ℕ) {percentage : ℕ} (h : 0 < percentage) where
  pub link_covers : metres * rate * 100000000 ≤ link_bits metres rate percentage * (percentage * light_speed)
  unfolding link_bits
  link_covers = (rounded_up_lem (metres * rate * 100000000) (percentage * light_speed) (omega arith)).0

  pub link_least : {most : ℕ} → metres * rate * 100000000 ≤ most * (percentage * light_speed) → link_bits metres rate percentage ≤ most
  unfolding link_bits
  link_least = rounded_up_least _ _ (omega arith)

module _ (metres rate percentage : ℕ) (m : metres ≤ largest_metres) (r : rate ≤ largest_rate) (p : least_percentage ≤ percentage) where
  -- the products under the quotient, with any factor up to 100,000,000, are within what 64 bits hold
  pub product_small : metres * rate ≤ largest_metres * largest_rate
  product_small = mul-le-mul m r

  pub sum_small : {by more : ℕ} → by ≤ 100000000 → more < 100000000 * light_speed → metres * rate * by + more < 2 ^ 64
  sum_small {by} small few =
      let product : metres * rate * by ≤ largest_metres * largest_rate * 100000000 = mul-le-mul product_small small
      in omega arith

  pub scaled_small : {by : ℕ} → by ≤ 100000000 → metres * rate * by < 2 ^ 64
  scaled_small {by} small = omega (arith, sum_small {by = by} {more = 0} small (omega arith))

  -- the link's bits at the inputs that 10, 11 and 12 let through: no more than a path may have
  pub link_small : link_bits metres rate percentage ≤ largest_path
  link_small = link_least metres rate (omega arith) (omega (arith, product_small))

-- more metres hold no fewer bits
pub rises_with_metres : {metres more : ℕ} (rate percentage : ℕ) → 0 < percentage → metres ≤ more →
    link_bits metres rate percentage ≤ link_bits more rate percentage
rises_with_metres {metres} {more} rate percentage h longer =
    link_least metres rate h (omega (arith, link_covers more rate h, mul-le-mul_right rate longer))

-- a faster signal leaves no more bits in the link
pub falls_with_percentage : (metres rate : ℕ) {percentage faster : ℕ} → 0 < percentage → percentage ≤ faster →
    link_bits metres rate faster ≤ link_bits metres rate percentage
falls_with_percentage metres rate {percentage} {faster} h quicker =
    let wider = mul-le-mul_left (link_bits metres rate percentage) quicker
    in link_least metres rate (omega arith) (omega (arith, link_covers metres rate h, wider))

-- L1: how far a figure from before it can be off. It was never above what the link holds, and at most one in 1,400 and a bit below.
module _ (metres rate : ℕ) {percentage : ℕ} (h : 0 < percentage) where
  pub none_below_before : link_bits_before metres rate percentage ≤ link_bits metres rate percentage
  unfolding link_bits_before
  none_below_before = rounded_up_least _ _ (omega arith) (omega (arith, link_covers metres rate h))

  pub little_above_before : let before = link_bits_before metres rate percentage in link_bits metres rate percentage ≤ before + before / 1400 + 1
  unfolding link_bits_before
  little_above_before =
      let before : ℕ = link_bits_before metres rate percentage
      in let covers : metres * rate * 100 ≤ before * (percentage * 300) = (rounded_up_lem (metres * rate * 100) (percentage * 300) (omega arith)).0
      in let share : 1401 * before ≤ 1400 * (before + before / 1400 + 1) = omega arith
      in link_least metres rate h (omega (arith, covers, mul-le-mul_right percentage share))
