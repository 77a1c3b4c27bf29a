-- The invariant over any list of records.
use mathlib.Core.Bool.{Bool, true, false}
use mathlib.Core.Path.{◌≡◌, refl}
use mathlib.Core.List.{List, [], ◌∷◌}
use Rattle.std.specs.Prelude.{Ok, Err}
use borrow.Author.Tests.{eqb-true}
use lib.Dec.{eqb}
use Rattle.ground.specs.Pick.{pick}
use Rattle.recorder.specs.declared.Watch.{Watch}
use Rattle.records.specs.Records.{Asked}
use Rattle.records.specs.declared.Record.TheVariants as record'
use Rattle.bench_meaning.specs.State.{State, empty}
use Rattle.bench_meaning.specs.Step.{refusal_of, next_of, step_of}
use Rattle.no_loss.specs.Runs.{after}
use Rattle.no_loss.proofs.Refusals.{may_wait, may_start_data, may_leave, may_start_other, may_start_pfc, may_take}
use Rattle.no_loss.proofs.Watches.{SoundWatch}
use Rattle.no_loss.proofs.Invariant.{Inv, inv_empty}
use Rattle.no_loss.proofs.Keeping

module _ (w : Watch) (sound : SoundWatch w) where
  -- a record that is accepted keeps the invariant
  pub inv_next : (s : State) (asked : Asked) → refusal_of w s asked ≡ 0 → Inv w s → Inv w (next_of w s asked)
  unfolding refusal_of next_of
  inv_next s (Ok (record'.Wait n)) e inv = Keeping.kept_wait w sound s n (may_wait w s n e) inv
  inv_next s (Ok (record'.StartData priority size)) e inv = Keeping.kept_start_data w sound s priority size (may_start_data w s priority size e) inv
  inv_next s (Ok record'.Arrive) e inv = Keeping.kept_arrive w sound s s.to_b.row (may_leave s.to_b s.clock e) inv
  inv_next s (Ok (record'.StartOther size)) e inv = Keeping.kept_start_other w sound s size (may_start_other w s size e) inv
  inv_next s (Ok record'.StartPfc) e inv = Keeping.kept_start_pfc w sound s (may_start_pfc w s e) inv
  inv_next s (Ok record'.TakeEffect) e inv = Keeping.kept_take_effect w sound s s.to_a.row (may_leave s.to_a s.clock e) inv
  inv_next s (Ok (record'.TakeOctets priority octets)) e inv =
      Keeping.kept_take w sound s priority octets (may_take w s.recorder priority octets e) inv
  inv_next s (Err refusal) e inv = inv

  -- any record keeps it: one that is refused changes nothing
  pub inv_step : (s : State) (asked : Asked) → Inv w s → Inv w (step_of w s asked)
  unfolding step_of pick
  inv_step s asked inv = go (eqb (refusal_of w s asked) 0) refl
    where
      go : (accepted : Bool) → eqb (refusal_of w s asked) 0 ≡ accepted → Inv w (pick accepted (next_of w s asked) s)
      go true e = inv_next s asked (eqb-true _ _ e) inv
      go false e = inv

  -- and so does any list of records
  pub inv_after : (s : State) (records : List Asked) → Inv w s → Inv w (after w s records)
  unfolding after
  inv_after s [] inv = inv
  inv_after s (asked ∷ rest) inv = inv_after (step_of w s asked) rest (inv_step s asked inv)

  -- the invariant holds in every state that a run reaches
  pub inv_reached : (records : List Asked) → Inv w (after w (empty w) records)
  inv_reached records = inv_after (empty w) records (inv_empty w sound)
