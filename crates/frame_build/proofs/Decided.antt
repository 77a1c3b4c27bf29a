-- Any two answers that the contract of `build` permits for the same call are equal, and so are the octets lent to it. It is stated about
-- the contract itself and assumes nothing.
use mathlib.Core.Path.{◌≡◌, sym, ◌∙◌}
use contract.Lifetimes.{Lfts}
use borrow.Fn.Kinds.{Dens, res_t, ended_of}
use denote.Triple.Clauses.{AtExit}
use Rattle.ground.proofs.Decides.{Decides}
use Rattle.frame_build.proofs.build.Kinds as build_kinds
use Rattle.frame_build.proofs.build.Reads as build

pub build_decides : Decides 1 build_kinds.ps build_kinds.r build.Post
build_decides κs args x y e f p q = p.1.0 ∙ sym q.1.0

-- and the buffer at exit
pub build_decides_buffer : (κs : Lfts 1) (args : Dens κs build_kinds.ps) (x y : (res_t build_kinds.r κs).Denot)
    (e f : AtExit (ended_of 1 build_kinds.ps build_kinds.r) κs) →
    build.Post κs args x e → build.Post κs args y f → e.0.now ≡ f.0.now
build_decides_buffer κs args x y e f p q = p.1.1 ∙ sym q.1.1
