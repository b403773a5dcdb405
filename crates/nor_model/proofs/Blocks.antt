-- The blocks of a plan, erased one after another: its span is set to FF, and nothing else.
use mathlib.Core.Path.{◌≡◌, refl, sym, ap, ◌∙◌, subst}
use mathlib.Core.List.{List, [], ◌∷◌}
use Prim.Native.Nat.{ℕ, ◌+◌, ◌-◌, ◌≤◌, ◌<◌}
use native.Mathlib.Omega.{arith}
use Rattle.erase_plan.specs.declared.EraseEntry.{EraseEntry}
use Rattle.erase_plan.specs.Span.{end_of, span_start, span_end}
use Rattle.erase_plan.specs.Good.{Follows, Covers}
use Rattle.nor_model.specs.Replay.{set_to_ff}
use Rattle.nor_model.proofs.Memory.{Mem, ff_join}
use Rattle.nor_model.proofs.Pages.{all}

-- what an entry does
abbrev pub wiped : EraseEntry → Mem → Mem
wiped e m = set_to_ff e.base e.size m

-- where entries from a position on end
unfoldable end_from : ℕ → List EraseEntry → ℕ
end_from at [] = at
end_from at (e ∷ es) = end_from (end_of e) es

end_span : (e : EraseEntry) (es : List EraseEntry) → span_end (e ∷ es) ≡ end_from (end_of e) es
unfolding span_end end_from
end_span e [] = refl
end_span e (f ∷ es) = end_span f es

module _ (L end : ℕ) where
  end_later : (at : ℕ) (es : List EraseEntry) → Follows L at end es → at ≤ end_from at es
  unfolding end_from
  end_later at [] h = omega arith
  end_later at (e ∷ es) h = omega (arith, h.0, end_later (end_of e) es h.3)

  -- a range that was set to FF grows by the entries that follow it
  wiped_on : (b n : ℕ) (es : List EraseEntry) (m : Mem) → Follows L (b + n) end es → all wiped es (set_to_ff b n m) ≡ set_to_ff b (end_from (b + n) es - b) m
  unfolding all end_from
  wiped_on b n [] m h = ap (λ (k : ℕ). set_to_ff b k m) (omega arith)
  wiped_on b n (e ∷ es) m h =
      let q : b + (n + e.size) ≡ end_of e = omega (arith, h.0) in
      ap (all wiped es) (ap (λ (x : ℕ). set_to_ff x e.size (set_to_ff b n m)) h.0 ∙ ff_join b n e.size m)
      ∙ wiped_on b (n + e.size) es m (subst (λ (x : ℕ). Follows L x end es) (sym q) h.3)
      ∙ ap (λ (x : ℕ). set_to_ff b (end_from x es - b) m) q

  pub wiped_all : (pos : ℕ) (es : List EraseEntry) (m : Mem) → pos < end → Covers L pos end es
      → all wiped es m ≡ set_to_ff (span_start es) (span_end es - span_start es) m
  unfolding all span_start
  wiped_all pos [] m k h = absurd (omega (arith, h))
  wiped_all pos (e ∷ es) m k h =
      wiped_on e.base e.size es m h.2 ∙ ap (λ (x : ℕ). set_to_ff e.base (x - e.base) m) (sym (end_span e es))
