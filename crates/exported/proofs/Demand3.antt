-- Demand 3 holds of the exports, from every session that a C host reaches.
use mathlib.Core.Path.{◌≡◌, sym, subst}
use mathlib.Core.List.{List, []}
use Prim.Native.Nat.{ℕ}
use Rattle.flash.specs.Starts.{fresh}
use Rattle.over_bytes.specs.OverBytes.{Keeps}
use Rattle.over_bytes.proofs.Keeping.{demand3_over_bytes}
use Rattle.driver.specs.Demand3.{after}
use Rattle.driver.proofs.Reaching.{possible}
use Rattle.exported.specs.Exports.{exports}
use Rattle.exported.specs.Demand3.{Demand3OfExports}
use Rattle.exported.proofs.Exports.{reaches, new_packs}

pub demand3_of_exports : Demand3OfExports
demand3_of_exports e long p state ts acts busy b h i typed =
    let g = reaches e long ts h (exports e).fresh fresh [] (new_packs e long) in
    subst (λ (x : List ℕ). Keeps p state.memory (record { state = state; bytes = x; accepted = [] }) acts) (sym g.0)
    (demand3_over_bytes p state (after ts) acts busy b i (possible ts h) g.1 typed)
