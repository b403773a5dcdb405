-- What holds of every plan, and of the plans of types whose sizes divide the largest.
use Rattle.std.proofs.Common.{◌≡◌, ℕ, zero, suc, ◌+◌, ◌-◌, ◌^◌, ◌<◌, ◌≤◌, min, List, [], ◌∷◌, length, sym, refl, ◌∙◌, subst, inl, inr, ⊎_elim, arith, pow_pos}
use Rattle.erase_plan.specs.declared.EraseType.{EraseType}
use Rattle.erase_plan.specs.declared.EraseEntry.{EraseEntry}
use Rattle.erase_plan.specs.Plan.{block_end, cover, chosen, entry_at, next_pos, plan_in, plan}
use Rattle.erase_plan.specs.Span.{end_of, span_start, span_end}
use Rattle.erase_plan.specs.Words.{Each, Mult}
use Rattle.erase_plan.specs.Good.{Present, Divides, Has, Kinds, Aligned, Holds, Meets, Inside, Follows, Covers, Good}
use Rattle.erase_plan.specs.Later.{Power}
use Rattle.erase_plan.proofs.Lists.{lt_or_le, each_map}
use Rattle.erase_plan.proofs.Multiples.{base_mult, end_mult, end_base, base_le, end_gt, mult_trans, end_mono, base_self, mult_self, mult_le, pow_mult}
use Rattle.erase_plan.proofs.Choice.{chosen_each, chosen_most}
use Rattle.erase_plan.proofs.Steps.{in_nil, in_more, in_done, plan_done, plan_none, plan_more}

-- ---- any types
-- what holds of the entry at each position of the range holds of each entry of the plan
in_each : (P : EraseEntry → Type 0) (n : ℕ) (ts : List EraseType) (pos end : ℕ)
    → ((q : ℕ) → pos ≤ q → q < end → P (entry_at ts q end)) → Each P (plan_in n ts pos end)
unfolding next_pos
in_each P zero ts pos end f = rw (in_nil ts pos end) tt
in_each P (suc n) ts pos end f =
    ⊎_elim
    (λ (h : pos < end). rw (in_more n ts pos end h) (f pos (omega arith) h, in_each P n ts (next_pos ts pos end) end (λ q a b. f q (omega arith) b)))
    (λ (h : end ≤ pos). rw (in_done (suc n) ts pos end h) tt)
    (lt_or_le pos end)

pub plan_each : (P : EraseEntry → Type 0) (ts : List EraseType) (pos end : ℕ)
    → ((q : ℕ) → pos ≤ q → q < end → P (entry_at ts q end)) → Each P (plan ts pos end)
unfolding plan
plan_each P [] pos end f = tt
plan_each P (t ∷ ts) pos end f = in_each P (end - pos) (t ∷ ts) pos end f

-- an entry's base is a multiple of its size
pub entry_aligned : (ts : List EraseType) (pos end : ℕ) → Aligned (entry_at ts pos end)
unfolding entry_at
entry_aligned ts pos end = base_mult (chosen ts pos end).size pos

pub plan_aligned : (ts : List EraseType) (pos end : ℕ) → Each Aligned (plan ts pos end)
plan_aligned ts pos end = plan_each Aligned ts pos end (λ q _ _. entry_aligned ts q end)

-- an entry's block holds its position
pub entry_holds : (t : EraseType) (ts : List EraseType) → Each Present (t ∷ ts) → (pos end : ℕ) → Holds pos (entry_at (t ∷ ts) pos end)
unfolding entry_at
entry_holds t ts p pos end =
    let s = (chosen (t ∷ ts) pos end).size in
    (base_le s pos, omega (arith, end_gt s pos (chosen_each pos end Present t ts p), end_base s pos))

-- each entry's block has a wanted byte
pub plan_meets : (ts : List EraseType) → Each Present ts → (pos end : ℕ) → Each (Meets pos end) (plan ts pos end)
plan_meets [] p pos end = rw (plan_none pos end) tt
plan_meets (t ∷ ts) p pos end =
    plan_each (Meets pos end) (t ∷ ts) pos end
    (λ q a b. let h : Holds q (entry_at (t ∷ ts) q end) = entry_holds t ts p q end in (omega (arith, h.0), omega (arith, h.1)))

-- there are no more entries than wanted bytes
in_few : (n : ℕ) (ts : List EraseType) (pos end : ℕ) → length (plan_in n ts pos end) ≤ n
in_few zero ts pos end = rw (in_nil ts pos end) (omega arith)
in_few (suc n) ts pos end =
    ⊎_elim
    (λ (h : pos < end). rw (in_more n ts pos end h) (omega (arith, in_few n ts (next_pos ts pos end) end)))
    (λ (h : end ≤ pos). rw (in_done (suc n) ts pos end h) (omega arith))
    (lt_or_le pos end)

pub plan_few : (ts : List EraseType) (pos end : ℕ) → length (plan ts pos end) ≤ end - pos
unfolding plan
plan_few [] pos end = omega arith
plan_few (t ∷ ts) pos end = in_few (end - pos) (t ∷ ts) pos end

-- a range that is not empty has an entry exactly where there is a type
pub plan_some : (ts : List EraseType) → Each Present ts → (pos end : ℕ) → pos < end → 0 < length ts → 0 < length (plan ts pos end)
plan_some [] p pos end h n = absurd (omega arith)
plan_some (t ∷ ts) p pos end h n = rw (plan_more t ts p pos end h) (omega arith)

-- ---- types whose sizes divide the largest
pub has_pos : (L : ℕ) (ts : List EraseType) → Each (Divides L) ts → Has L ts → 0 < L
has_pos L (t ∷ ts) d (inl e) = omega (arith, d.0.some)
has_pos L (t ∷ ts) d (inr h) = has_pos L ts d.1 h
has_pos L [] d h = absurd h

-- where no type covers more than c bytes, neither does one of size L
has_cover : (L : ℕ) (ts : List EraseType) (pos end c : ℕ) → Has L ts → Each (λ (u : EraseType). cover u pos end ≤ c) ts → min (block_end L pos) end - pos ≤ c
unfolding cover
has_cover L (t ∷ ts) pos end c (inl e) m = subst (λ (x : ℕ). min (block_end x pos) end - pos ≤ c) e m.0
has_cover L (t ∷ ts) pos end c (inr h) m = has_cover L ts pos end c h m.1
has_cover L [] pos end c h m = absurd h

pub kinds_present : {L : ℕ} {ts : List EraseType} → Kinds L ts → Each Present ts
kinds_present {L} {ts} K = each_map (Divides L) Present (λ t d. d.some) ts K.each

module _ (L : ℕ) (t : EraseType) (ts : List EraseType) (K : Kinds L (t ∷ ts)) where
  largest_pos : 0 < L
  largest_pos = has_pos L (t ∷ ts) K.each K.has

  present : Each Present (t ∷ ts)
  present = kinds_present K

  pub chosen_divides : (pos end : ℕ) → Divides L (chosen (t ∷ ts) pos end)
  chosen_divides pos end = chosen_each pos end (Divides L) t ts K.each

  -- whichever type is taken, its block reaches as far as the largest one's
  pub cover_reach : (pos end : ℕ) → cover (chosen (t ∷ ts) pos end) pos end ≡ min (block_end L pos) end - pos
  unfolding cover
  cover_reach pos end =
      let d : Divides L (chosen (t ∷ ts) pos end) = chosen_divides pos end in
      omega (
        arith,
        has_cover L (t ∷ ts) pos end (cover (chosen (t ∷ ts) pos end) pos end) K.has (chosen_most pos end (t ∷ ts)),
        end_mono pos d.some largest_pos d.part,
      )

  pub next_reach : (pos end : ℕ) → pos < end → next_pos (t ∷ ts) pos end ≡ min (block_end L pos) end
  unfolding next_pos
  next_reach pos end h = omega (arith, cover_reach pos end, end_gt L pos largest_pos)

  -- an entry's end, where it lies in the range, is that of the largest type's block
  pub entry_reach : (pos end : ℕ) → pos < end → min (end_of (entry_at (t ∷ ts) pos end)) end ≡ min (block_end L pos) end
  unfolding entry_at cover
  entry_reach pos end h =
      let s = (chosen (t ∷ ts) pos end).size in
      omega (arith, cover_reach pos end, end_gt L pos largest_pos, end_gt s pos (chosen_divides pos end).some, end_base s pos)

  -- at a multiple of L an entry starts at its own position
  pub entry_base : (pos end : ℕ) → Mult L pos → (entry_at (t ∷ ts) pos end).base ≡ pos
  unfolding entry_at
  entry_base pos end m =
      let d : Divides L (chosen (t ∷ ts) pos end) = chosen_divides pos end in
      base_self d.some (mult_trans d.part m)

  pub entry_size : (pos end : ℕ) → (entry_at (t ∷ ts) pos end).size ≤ L
  unfolding entry_at
  entry_size pos end = mult_le largest_pos (chosen_divides pos end).part

  -- what comes after an entry: nothing, where it reaches the end; else the plan from its end, a multiple of L
  pub after_entry : (pos end : ℕ) (P : ℕ → List EraseEntry → Type 0) → pos < end → let e = end_of (entry_at (t ∷ ts) pos end) in
      (end ≤ e → P e []) → (pos < e → e < end → Mult L e → P e (plan (t ∷ ts) e end)) → P e (plan (t ∷ ts) (next_pos (t ∷ ts) pos end) end)
  after_entry pos end P h p q = ⊎_elim inside past (lt_or_le e end)
    where
      e : ℕ
      e = end_of (entry_at (t ∷ ts) pos end)

      at : next_pos (t ∷ ts) pos end ≡ min e end
      at = next_reach pos end h ∙ sym (entry_reach pos end h)

      inside : e < end → P e (plan (t ∷ ts) (next_pos (t ∷ ts) pos end) end)
      inside l =
          let w : next_pos (t ∷ ts) pos end ≡ e = omega (arith, at) in
          let b : block_end L pos ≡ e = omega (arith, entry_reach pos end h) in
          rw w (q (omega (arith, end_gt L pos largest_pos)) l (subst (Mult L) b (end_mult L pos)))

      past : end ≤ e → P e (plan (t ∷ ts) (next_pos (t ∷ ts) pos end) end)
      past l = rw (plan_done (t ∷ ts) (next_pos (t ∷ ts) pos end) end (omega (arith, at))) (p l)

  follows_in : (n pos end : ℕ) → end - pos ≤ n → Mult L pos → Follows L pos end (plan (t ∷ ts) pos end)
  follows_in zero pos end b m = let l : end ≤ pos = omega arith in rw (plan_done (t ∷ ts) pos end l) l
  follows_in (suc n) pos end b m =
      ⊎_elim
      (λ (l : pos < end). rw (plan_more t ts present pos end l) (
        entry_base pos end m,
        l,
        m,
        after_entry pos end (λ (p : ℕ) (es : List EraseEntry). Follows L p end es) l (λ g. g)
            (λ a g c. follows_in n (end_of (entry_at (t ∷ ts) pos end)) end (omega arith) c),
      ))
      (λ (l : end ≤ pos). rw (plan_done (t ∷ ts) pos end l) l)
      (lt_or_le pos end)

  -- from a multiple of L on, each entry starts where the one before ends, at a multiple of L
  pub plan_follows : (pos end : ℕ) → Mult L pos → Follows L pos end (plan (t ∷ ts) pos end)
  plan_follows pos end m = follows_in (end - pos) pos end (omega arith) m

  -- the first entry holds the start, the others follow, to the end or past it
  pub plan_covers : (pos end : ℕ) → Covers L pos end (plan (t ∷ ts) pos end)
  plan_covers pos end =
      ⊎_elim
      (λ (l : pos < end). rw (plan_more t ts present pos end l) (
        entry_holds t ts present pos end,
        l,
        after_entry pos end (λ (p : ℕ) (es : List EraseEntry). Follows L p end es) l (λ g. g)
            (λ a g c. plan_follows (end_of (entry_at (t ∷ ts) pos end)) end c),
      ))
      (λ (l : end ≤ pos). rw (plan_done (t ∷ ts) pos end l) l)
      (lt_or_le pos end)

-- ---- the span
follows_end : (L end : ℕ) (e : EraseEntry) (es : List EraseEntry) → Follows L (end_of e) end es → end ≤ span_end (e ∷ es)
unfolding span_end
follows_end L end e [] f = f
follows_end L end e (x ∷ es) f = follows_end L end x es f.3

covers_start : (L pos end : ℕ) (es : List EraseEntry) → Covers L pos end es → pos < end → span_start es ≤ pos
unfolding span_start
covers_start L pos end [] c h = absurd (omega (arith, c))
covers_start L pos end (e ∷ es) c h = c.0.0

covers_end : (L pos end : ℕ) (es : List EraseEntry) → Covers L pos end es → pos < end → end ≤ span_end es
covers_end L pos end [] c h = absurd (omega (arith, c))
covers_end L pos end (e ∷ es) c h = follows_end L end e es c.2

-- an entry that starts below the end and is no larger than L
record Short (L end : ℕ) (e : EraseEntry) : Type 0 where
  starts : e.base < end
  small : e.size ≤ L

short_end : (L end : ℕ) (e : EraseEntry) (es : List EraseEntry) → Each (Short L end) (e ∷ es) → span_end (e ∷ es) < end + L
unfolding span_end
short_end L end e [] s = omega (arith, s.0.starts, s.0.small)
short_end L end e (x ∷ es) s = short_end L end x es s.1

covers_near : (L pos end : ℕ) (es : List EraseEntry) → Covers L pos end es → pos < end → Each (Short L end) es → span_end es < end + L
covers_near L pos end [] c h s = absurd (omega (arith, c))
covers_near L pos end (e ∷ es) c h s = short_end L end e es s

-- the blocks lie in the span
follows_high : (L end : ℕ) (e : EraseEntry) (es : List EraseEntry) → Follows L (end_of e) end es → end_of e ≤ span_end (e ∷ es)
unfolding span_end
follows_high L end e [] f = omega arith
follows_high L end e (x ∷ es) f = omega (arith, f.0, follows_high L end x es f.3)

follows_inside : (L end low : ℕ) (e : EraseEntry) (es : List EraseEntry) → low ≤ e.base → Follows L (end_of e) end es
    → Each (Inside low (span_end (e ∷ es))) (e ∷ es)
unfolding span_end
follows_inside L end low e [] h f = ((h, omega arith), tt)
follows_inside L end low e (x ∷ es) h f =
    ((h, omega (arith, f.0, follows_high L end x es f.3)), follows_inside L end low x es (omega (arith, f.0)) f.3)

covers_inside : (L pos end : ℕ) (es : List EraseEntry) → Covers L pos end es → Each (Inside (span_start es) (span_end es)) es
unfolding span_start
covers_inside L pos end [] c = tt
covers_inside L pos end (e ∷ es) c = follows_inside L end e.base e es (omega arith) c.2

-- all that is promised of a plan
pub plan_good : (L : ℕ) (ts : List EraseType) → Kinds L ts → (pos end : ℕ) → pos < end → Good L pos end (plan ts pos end)
plan_good L [] K pos end h = absurd K.has
plan_good L (t ∷ ts) K pos end h =
    let c : Covers L pos end (plan (t ∷ ts) pos end) = plan_covers L t ts K pos end in
    let p : Each Present (t ∷ ts) = kinds_present K in
    record {
      aligned = plan_aligned (t ∷ ts) pos end;
      covers = c;
      meets = plan_meets (t ∷ ts) p pos end;
      few = plan_few (t ∷ ts) pos end;
      starts = covers_start L pos end (plan (t ∷ ts) pos end) c h;
      reaches = covers_end L pos end (plan (t ∷ ts) pos end) c h;
      near = covers_near L pos end (plan (t ∷ ts) pos end) c h
          (plan_each (Short L end) (t ∷ ts) pos end
          (λ q a b. record { starts = omega (arith, (entry_holds t ts p q end).0); small = entry_size L t ts K q end }));
      inside = covers_inside L pos end (plan (t ∷ ts) pos end) c;
    }

-- ---- types that are so
-- a single type of any size
pub single_kinds : (t : EraseType) → Present t → Kinds t.size (t ∷ [])
single_kinds t p = record { each = (record { some = p; part = mult_self t.size }, tt); has = inl refl }

record Below (m : ℕ) (t : EraseType) : Type 0 where
  exponent : ℕ
  is : t.size ≡ 2 ^ exponent
  le : exponent ≤ m

below_divides : (m : ℕ) (t : EraseType) → Below m t → Divides (2 ^ m) t
below_divides m t b =
    record {
      some = subst (λ (x : ℕ). 0 < x) (sym b.is) (pow_pos b.exponent);
      part = subst (λ (x : ℕ). Mult x (2 ^ m)) (sym b.is) (pow_mult b.exponent m b.le);
    }

-- the largest of some powers of two
record Top (ts : List EraseType) : Type 0 where
  m : ℕ
  below : Each (Below m) ts
  has : Has (2 ^ m) ts

top : (t : EraseType) (ts : List EraseType) → Each Power (t ∷ ts) → Top (t ∷ ts)
top t [] p = record { m = p.0.exponent; below = (record { exponent = p.0.exponent; is = p.0.is; le = omega arith }, tt); has = inl p.0.is }
top t (u ∷ us) p = one p.0 (top u us p.1)
  where
    one : Power t → Top (u ∷ us) → Top (t ∷ u ∷ us)
    one k r =
        ⊎_elim
        (λ (h : r.m < k.exponent). record {
          m = k.exponent;
          below = (
            record { exponent = k.exponent; is = k.is; le = omega arith },
            each_map (Below r.m) (Below k.exponent) (λ x b. record { exponent = b.exponent; is = b.is; le = omega (arith, b.le) }) (u ∷ us) r.below,
          );
          has = inl k.is;
        })
        (λ (h : k.exponent ≤ r.m). record { m = r.m; below = (record { exponent = k.exponent; is = k.is; le = h }, r.below); has = inr r.has })
        (lt_or_le r.m k.exponent)

-- any powers of two
pub power_kinds : (ts : List EraseType) → 0 < length ts → Each Power ts → (L : ℕ) × Kinds L ts
power_kinds [] h p = absurd (omega arith)
power_kinds (t ∷ ts) h p =
    let r : Top (t ∷ ts) = top t ts p in
    (2 ^ r.m, record { each = each_map (Below r.m) (Divides (2 ^ r.m)) (below_divides r.m) (t ∷ ts) r.below; has = r.has })
