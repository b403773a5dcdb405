-- The plan worked out directly is the plan.
use Rattle.std.proofs.Common.{◌≡◌, ℕ, zero, suc, ◌+◌, ◌-◌, ◌*◌, ◌/◌, ◌<◌, ◌≤◌, Bool, cond, ltb, List, [], ◌∷◌, ◌++◌, length, sym, refl, ap, ◌∙◌, ap₂, inl, inr, ⊎_elim, append-nil, div-mul-le_self, arith, length-append, le-ltb, lt-ltb}
use native.Mathlib.Nat.{lt-div-mul-add, zero-div}
use Rattle.erase_plan.specs.declared.EraseType.{EraseType}
use Rattle.erase_plan.specs.declared.EraseEntry.{EraseEntry}
use Rattle.erase_plan.specs.Plan.{block_end, cover, beats, chosen_from, chosen, entry_from, entry_at, next_pos, plan}
use Rattle.erase_plan.specs.Span.{end_of, span_start, span_end, survey_of}
use Rattle.erase_plan.specs.Words.{Each, Mult}
use Rattle.erase_plan.specs.Good.{Divides, Has, Kinds}
use Rattle.erase_plan.specs.Later.{Even}
use Rattle.erase_plan.specs.Direct.{largest, large_type, blocks, one_at, wholes, beyond, direct, DirectIsPlan}
use Rattle.erase_plan.proofs.Lists.{lt_or_le, by_cond}
use Rattle.erase_plan.proofs.Multiples.{end_mult, end_base, mult_trans, base_self, mult_le}
use Rattle.erase_plan.proofs.Steps.{plan_more, plan_done, plan_none}
use Rattle.erase_plan.proofs.Planned.{kinds_present, has_pos, chosen_divides, cover_reach, next_reach, entry_reach, entry_base}
use Rattle.erase_plan.proofs.Places.{even_kinds}
use Rattle.erase_plan.proofs.Walks.{end_append}

mult_zero : (s : ℕ) → Mult s 0
mult_zero s = record { q = 0; is = omega arith }

mult_next : {s n : ℕ} → Mult s n → Mult s (n + s)
mult_next {s} {n} m = record { q = suc m.q; is = omega (arith, m.is) }

-- ---- the largest size
most_le : (L : ℕ) (ts : List EraseType) → 0 < L → Each (Divides L) ts → largest ts ≤ L
unfolding largest
most_le L [] h d = omega arith
most_le L (t ∷ ts) h d = omega (arith, mult_le h d.0.part, most_le L ts h d.1)

most_ge : (L : ℕ) (ts : List EraseType) → Has L ts → L ≤ largest ts
unfolding largest
most_ge L (t ∷ ts) (inl e) = omega (arith, e)
most_ge L (t ∷ ts) (inr h) = omega (arith, most_ge L ts h)
most_ge L [] h = absurd h

kinds_largest : (L : ℕ) (ts : List EraseType) → Kinds L ts → largest ts ≡ L
kinds_largest L ts K = omega (arith, most_le L ts (has_pos L ts K.each K.has) K.each, most_ge L ts K.has)

-- ---- what the definitions come to
same_beats : (u x : EraseType) (pos end p q : ℕ) → cover x pos end ≡ cover x p q → cover u pos end ≡ cover u p q → beats u x pos end ≡ beats u x p q
unfolding beats
same_beats u x pos end p q e f = rw (e, f)

based : (ts : List EraseType) (pos end : ℕ) → (entry_at ts pos end).base ≡ pos → entry_at ts pos end ≡ entry_from (chosen ts pos end) pos
unfolding entry_at
based ts pos end e = ap (entry_from (chosen ts pos end)) e

one_some : (ts : List EraseType) (pos end : ℕ) → pos < end → one_at ts pos end ≡ entry_at ts pos end ∷ []
unfolding one_at
one_some ts pos end h = rw (lt-ltb pos end h, one_at)

one_none : (ts : List EraseType) (pos end : ℕ) → end ≤ pos → one_at ts pos end ≡ []
unfolding one_at
one_none ts pos end h = rw (le-ltb pos end h, one_at)

none_beyond : (u : EraseType) (ts : List EraseType) (L pos end m : ℕ) → m ≡ 0 → 0 < L → end ≤ pos → blocks u (m / L) pos ++ one_at ts (pos + m / L * L) end ≡ []
unfolding blocks
none_beyond u ts L pos end m z h l =
    let n : m / L ≡ 0 = ap (λ (x : ℕ). x / L) z ∙ zero-div L in
    rw n (one_none ts (pos + 0 * L) end (omega arith))

-- ---- types whose sizes divide the largest
module _ (L : ℕ) (t : EraseType) (ts : List EraseType) (K : Kinds L (t ∷ ts)) where
  some : 0 < L
  some = has_pos L (t ∷ ts) K.each K.has

  -- at a multiple of L with a whole largest block ahead each type covers its size
  cover_whole : (pos end : ℕ) (u : EraseType) → Mult L pos → pos + L ≤ end → Divides L u → cover u pos end ≡ u.size
  unfolding cover
  cover_whole pos end u m h d = omega (arith, end_base u.size pos, base_self d.some (mult_trans d.part m), mult_le some d.part)

  -- the type taken goes by what the types cover
  same_from : (pos end p q : ℕ) → ((u : EraseType) → Divides L u → cover u pos end ≡ cover u p q) → (x : EraseType) (us : List EraseType)
      → Divides L x → Each (Divides L) us → chosen_from x us pos end ≡ chosen_from x us p q
  unfolding chosen_from
  same_from pos end p q same x [] d ds = refl
  same_from pos end p q same x (u ∷ us) d ds =
      ap (λ (b : Bool). chosen_from (cond b u x) us pos end) (same_beats u x pos end p q (same x d) (same u ds.0))
      ∙ same_from pos end p q same (cond (beats u x p q) u x) us (by_cond (Divides L) (beats u x p q) u x (λ _. ds.0) (λ _. d)) ds.1

  same_chosen : (pos end : ℕ) → Mult L pos → pos + L ≤ end → chosen (t ∷ ts) pos end ≡ chosen (t ∷ ts) 0 L
  unfolding chosen
  same_chosen pos end m h =
      same_from pos end 0 L (λ u d. cover_whole pos end u m h d ∙ sym (cover_whole 0 L u (mult_zero L) (omega arith) d)) t ts K.each.0 K.each.1

  whole_size : (chosen (t ∷ ts) 0 L).size ≡ L
  whole_size =
      omega (
        arith,
        cover_reach L t ts K 0 L,
        cover_whole 0 L (chosen (t ∷ ts) 0 L) (mult_zero L) (omega arith) (chosen_divides L t ts K 0 L),
        end_base L 0,
        base_self some (mult_zero L),
      )

  entry_whole : (pos end : ℕ) → Mult L pos → pos + L ≤ end → entry_at (t ∷ ts) pos end ≡ entry_from (chosen (t ∷ ts) 0 L) pos
  entry_whole pos end m h =
      based (t ∷ ts) pos end (entry_base L t ts K pos end m) ∙ ap (λ (u : EraseType). entry_from u pos) (same_chosen pos end m h)

  end_whole : (pos : ℕ) → Mult L pos → block_end L pos ≡ pos + L
  end_whole pos m = omega (arith, end_base L pos, base_self some m)

  -- less than a largest block: one entry, or none
  plan_short : (pos end : ℕ) → Mult L pos → pos ≤ end → end < pos + L → plan (t ∷ ts) pos end ≡ one_at (t ∷ ts) pos end
  plan_short pos end m a b =
      ⊎_elim
      (λ (l : pos < end). plan_more t ts (kinds_present K) pos end l
      ∙ ap (λ (es : List EraseEntry). entry_at (t ∷ ts) pos end ∷ es)
      (plan_done (t ∷ ts) (next_pos (t ∷ ts) pos end) end (omega (arith, next_reach L t ts K pos end l, end_whole pos m)))
      ∙ sym (one_some (t ∷ ts) pos end l))
      (λ (l : end ≤ pos). plan_done (t ∷ ts) pos end l ∙ sym (one_none (t ∷ ts) pos end l))
      (lt_or_le pos end)

  -- n largest blocks and less than one more
  plan_wholes : (n pos end : ℕ) → Mult L pos → pos + n * L ≤ end → end < pos + n * L + L
      → plan (t ∷ ts) pos end ≡ blocks (chosen (t ∷ ts) 0 L) n pos ++ one_at (t ∷ ts) (pos + n * L) end
  unfolding blocks
  plan_wholes zero pos end m a b = plan_short pos end m (omega arith) (omega arith) ∙ ap (λ (x : ℕ). one_at (t ∷ ts) x end) (omega arith)
  plan_wholes (suc n) pos end m a b =
      let l : pos < end = omega (arith, some) in
      let h : pos + L ≤ end = omega arith in
      let next : next_pos (t ∷ ts) pos end ≡ pos + L = omega (arith, next_reach L t ts K pos end l, end_whole pos m) in
      let far : pos + L + n * L ≡ pos + suc n * L = omega arith in
      plan_more t ts (kinds_present K) pos end l
      ∙ ap₂ (λ (e : EraseEntry) (x : ℕ). e ∷ plan (t ∷ ts) x end) (entry_whole pos end m h) next
      ∙ ap (λ (es : List EraseEntry). entry_from (chosen (t ∷ ts) 0 L) pos ∷ es)
      (plan_wholes n (pos + L) end (mult_next m) (omega arith) (omega arith)
      ∙ ap₂ (λ (s x : ℕ). blocks (chosen (t ∷ ts) 0 L) n (pos + s) ++ one_at (t ∷ ts) x end) (sym whole_size) far)

  -- from the end of the first block on
  plan_beyond : (pos end : ℕ) → pos < end → plan (t ∷ ts) (next_pos (t ∷ ts) pos end) end
      ≡ blocks (chosen (t ∷ ts) 0 L) ((end - block_end L pos) / L) (block_end L pos) ++ one_at (t ∷ ts) (block_end L pos + (end - block_end L pos) / L * L) end
  plan_beyond pos end l = ⊎_elim inside past (lt_or_le (block_end L pos) end)
    where
      inside : block_end L pos < end → plan (t ∷ ts) (next_pos (t ∷ ts) pos end) end
          ≡ blocks (chosen (t ∷ ts) 0 L) ((end - block_end L pos) / L) (block_end L pos) ++ one_at (t ∷ ts) (block_end L pos + (end - block_end L pos) / L * L) end
      inside g =
          let next : next_pos (t ∷ ts) pos end ≡ block_end L pos = omega (arith, next_reach L t ts K pos end l) in
          rw next
          (plan_wholes ((end - block_end L pos) / L) (block_end L pos) end (end_mult L pos) (omega (arith, div-mul-le_self (end - block_end L pos) L))
          (omega (arith, lt-div-mul-add {a = end - block_end L pos} some)))

      past : end ≤ block_end L pos → plan (t ∷ ts) (next_pos (t ∷ ts) pos end) end
          ≡ blocks (chosen (t ∷ ts) 0 L) ((end - block_end L pos) / L) (block_end L pos) ++ one_at (t ∷ ts) (block_end L pos + (end - block_end L pos) / L * L) end
      past g =
          let z : end - block_end L pos ≡ 0 = omega arith in
          plan_done (t ∷ ts) (next_pos (t ∷ ts) pos end) end (omega (arith, next_reach L t ts K pos end l))
          ∙ sym (none_beyond (chosen (t ∷ ts) 0 L) (t ∷ ts) L (block_end L pos) end (end - block_end L pos) z some g)

-- ---- the whole
direct_more : (t : EraseType) (ts : List EraseType) (pos end : ℕ) → pos < end
    → direct (t ∷ ts) pos end ≡ entry_at (t ∷ ts) pos end ∷ beyond (t ∷ ts) (block_end (largest (t ∷ ts)) pos) end
unfolding direct
direct_more t ts pos end h = rw (lt-ltb pos end h, direct)

direct_done : (t : EraseType) (ts : List EraseType) (pos end : ℕ) → end ≤ pos → direct (t ∷ ts) pos end ≡ []
unfolding direct
direct_done t ts pos end h = rw (le-ltb pos end h, direct)

beyond_is : (ts : List EraseType) (L pos end : ℕ) → largest ts ≡ L
    → beyond ts pos end ≡ blocks (chosen ts 0 L) ((end - pos) / L) pos ++ one_at ts (pos + (end - pos) / L * L) end
unfolding beyond wholes large_type
beyond_is ts L pos end e = rw e

pub direct_is_plan : DirectIsPlan
unfolding direct
direct_is_plan [] even pos end = sym (plan_none pos end)
direct_is_plan (t ∷ ts) even pos end = of_kinds (even_kinds t ts even).0 (even_kinds t ts even).1
  where
    of_kinds : (L : ℕ) → Kinds L (t ∷ ts) → direct (t ∷ ts) pos end ≡ plan (t ∷ ts) pos end
    of_kinds L K =
        let e : largest (t ∷ ts) ≡ L = kinds_largest L (t ∷ ts) K in
        ⊎_elim
        (λ (l : pos < end). direct_more t ts pos end l
        ∙ ap (λ (es : List EraseEntry). entry_at (t ∷ ts) pos end ∷ es)
        (ap (λ (x : ℕ). beyond (t ∷ ts) (block_end x pos) end) e ∙ beyond_is (t ∷ ts) L (block_end L pos) end e ∙ sym (plan_beyond L t ts K pos end l))
        ∙ sym (plan_more t ts (kinds_present K) pos end l))
        (λ (l : end ≤ pos). direct_done t ts pos end l ∙ sym (plan_done (t ∷ ts) pos end l))
        (lt_or_le pos end)

-- ---- the number of entries
blocks_length : (u : EraseType) (n at : ℕ) → length (blocks u n at) ≡ n
unfolding blocks
blocks_length u zero at = refl
blocks_length u (suc n) at = ap suc (blocks_length u n (at + u.size))

one_length : (ts : List EraseType) (pos end : ℕ) → length (one_at ts pos end) ≡ cond (ltb pos end) 1 0
one_length ts pos end =
    ⊎_elim (λ (l : pos < end). rw (one_some ts pos end l, lt-ltb pos end l)) (λ (l : end ≤ pos). rw (one_none ts pos end l, le-ltb pos end l)) (lt_or_le pos end)

-- in closed form: the first, the largest ones, and one more where these do not reach the end
pub direct_count : (t : EraseType) (ts : List EraseType) → Even (t ∷ ts) → (pos end : ℕ) → pos < end
    → let from = block_end (largest (t ∷ ts)) pos in let n = wholes (t ∷ ts) from end in
    length (plan (t ∷ ts) pos end) ≡ 1 + (n + cond (ltb (from + n * largest (t ∷ ts)) end) 1 0)
unfolding beyond
direct_count t ts even pos end l =
    let from = block_end (largest (t ∷ ts)) pos in
    let n = wholes (t ∷ ts) from end in
    let last = one_at (t ∷ ts) (from + n * largest (t ∷ ts)) end in
    let e : length (plan (t ∷ ts) pos end) ≡ suc (length (blocks (large_type (t ∷ ts)) n from ++ last)) =
    ap length (sym (direct_is_plan (t ∷ ts) even pos end) ∙ direct_more t ts pos end l) in
    omega (
      arith,
      e,
      length-append (blocks (large_type (t ∷ ts)) n from) last,
      blocks_length (large_type (t ∷ ts)) n from,
      one_length (t ∷ ts) (from + n * largest (t ∷ ts)) end,
    )

-- ---- the span
blocks_end : (e : EraseEntry) (u : EraseType) (n at : ℕ) → end_of e ≡ at → span_end (e ∷ blocks u n at) ≡ at + n * u.size
unfolding blocks span_end
blocks_end e u zero at h = omega (arith, h)
blocks_end e u (suc n) at h =
    let far : at + u.size + n * u.size ≡ at + suc n * u.size = omega arith in
    blocks_end (entry_from u at) u n (at + u.size) refl ∙ far

count_span : (e : EraseEntry) (es : List EraseEntry) → survey_of (e ∷ es) ≡ record { count = suc (length es); first = e.base; end = span_end (e ∷ es) }
unfolding survey_of span_start
count_span e es = refl

one_span : (e : EraseEntry) → span_end (e ∷ []) ≡ end_of e
unfolding span_end
one_span e = refl

surveyed : (e : EraseEntry) (es : List EraseEntry) (n to : ℕ) → length es ≡ n → span_end (e ∷ es) ≡ to
    → survey_of (e ∷ es) ≡ record { count = suc n; first = e.base; end = to }
surveyed e es n to h k = rw (count_span e es, h, k)

-- in closed form, by the first entry, the end of its largest block, and how many largest blocks follow
module _ (L : ℕ) (t : EraseType) (ts : List EraseType) (K : Kinds L (t ∷ ts)) (pos end : ℕ) (l : pos < end) where
  -- the first alone
  pub survey_first : end ≤ block_end L pos
      → survey_of (plan (t ∷ ts) pos end) ≡ record { count = 1; first = (entry_at (t ∷ ts) pos end).base; end = end_of (entry_at (t ∷ ts) pos end) }
  survey_first g =
      let done = plan_done (t ∷ ts) (next_pos (t ∷ ts) pos end) end (omega (arith, next_reach L t ts K pos end l)) in
      ap survey_of (plan_more t ts (kinds_present K) pos end l ∙ ap (λ (es : List EraseEntry). entry_at (t ∷ ts) pos end ∷ es) done)
      ∙ surveyed (entry_at (t ∷ ts) pos end) [] 0 (end_of (entry_at (t ∷ ts) pos end)) refl (one_span (entry_at (t ∷ ts) pos end))

  module _ (n : ℕ) (is : (end - block_end L pos) / L ≡ n) where
    all : plan (t ∷ ts) pos end
        ≡ entry_at (t ∷ ts) pos end ∷ (blocks (chosen (t ∷ ts) 0 L) n (block_end L pos) ++ one_at (t ∷ ts) (block_end L pos + n * L) end)
    all =
        plan_more t ts (kinds_present K) pos end l
        ∙ ap (λ (es : List EraseEntry). entry_at (t ∷ ts) pos end ∷ es)
        (plan_beyond L t ts K pos end l
        ∙ ap (λ (m : ℕ). blocks (chosen (t ∷ ts) 0 L) m (block_end L pos) ++ one_at (t ∷ ts) (block_end L pos + m * L) end) is)

    -- a last one past the largest ones
    pub survey_last : block_end L pos + n * L < end → survey_of (plan (t ∷ ts) pos end)
        ≡ record { count = n + 2; first = (entry_at (t ∷ ts) pos end).base; end = end_of (entry_at (t ∷ ts) (block_end L pos + n * L) end) }
    survey_last g =
        let u = chosen (t ∷ ts) 0 L in
        let f = entry_at (t ∷ ts) (block_end L pos + n * L) end in
        let e = entry_at (t ∷ ts) pos end in
        let two : suc (n + 1) ≡ n + 2 = omega arith in
        ap survey_of (all ∙ ap (λ (es : List EraseEntry). e ∷ (blocks u n (block_end L pos) ++ es)) (one_some (t ∷ ts) (block_end L pos + n * L) end g))
        ∙ surveyed e (blocks u n (block_end L pos) ++ f ∷ []) (n + 1) (end_of f)
        (length-append (blocks u n (block_end L pos)) (f ∷ []) ∙ ap (λ (m : ℕ). m + 1) (blocks_length u n (block_end L pos)))
        (end_append (e ∷ blocks u n (block_end L pos)) f)
        ∙ rw two

    -- the largest ones end the range
    pub survey_full : block_end L pos < end → end ≤ block_end L pos + n * L → survey_of (plan (t ∷ ts) pos end)
        ≡ record { count = n + 1; first = (entry_at (t ∷ ts) pos end).base; end = block_end L pos + n * L }
    survey_full h g =
        let u = chosen (t ∷ ts) 0 L in
        let e = entry_at (t ∷ ts) pos end in
        let from : end_of e ≡ block_end L pos = omega (arith, entry_reach L t ts K pos end l) in
        let two : suc n ≡ n + 1 = omega arith in
        let size : u.size ≡ L = whole_size L t ts K in
        ap survey_of (all
        ∙ ap (λ (es : List EraseEntry). e ∷ (blocks u n (block_end L pos) ++ es)) (one_none (t ∷ ts) (block_end L pos + n * L) end g)
        ∙ ap (λ (es : List EraseEntry). e ∷ es) (append-nil (blocks u n (block_end L pos))))
        ∙ surveyed e (blocks u n (block_end L pos)) n (block_end L pos + n * L) (blocks_length u n (block_end L pos))
        (blocks_end e u n (block_end L pos) from ∙ ap (λ (s : ℕ). block_end L pos + n * s) size)
        ∙ rw two
