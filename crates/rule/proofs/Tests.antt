-- Lists of tests, and what the rule's tests say.
use Prim.Native.Nat.{ℕ, ◌+◌, ◌≤◌}
use mathlib.Core.Path.{◌≡◌, refl}
use mathlib.Core.Bool.{Bool, true, false, ◌&&◌}
use mathlib.Core.List.{List, [], ◌∷◌}
use native.Mathlib.Omega.{arith}
use borrow.Author.Tests.{leb-true, le-leb}
use Rattle.sfdp.proofs.Laws.{left_of, right_of}
use Rattle.settings.specs.declared.Settings.{Settings}
use Rattle.settings.specs.Limits.{Sound}
use Rattle.settings.specs.Ranges.{accepted_range}
use Rattle.settings.proofs.Laws.{accepted_32}
use Rattle.erase_plan.proofs.Lists.{no_true}
use Rattle.phases.specs.declared.Job.{Job}
use Rattle.phases.specs.Waits.{span_of}
use Rattle.meaning.proofs.Rest.{Ordered}
use Rattle.rule.specs.Rule.{all, settings_rule, job_ordered, job_rule, plan_rule, written_rule}

-- each test of a list holds
abbrev pub Hold : List Bool → Type 0
Hold [] = Unit {0}
Hold (t ∷ ts) = (t ≡ true) × Hold ts

pub held : (ts : List Bool) → all ts ≡ true → Hold ts
unfolding all
held [] h = tt
held (t ∷ []) h = (h, tt)
held (t ∷ u ∷ ts) h = (left_of t (all (u ∷ ts)) h, held (u ∷ ts) (right_of t (all (u ∷ ts)) h))

pub both : (a b : Bool) → a ≡ true → b ≡ true → a && b ≡ true
both true b h k = k
both false b h k = no_true h

pub hold : (ts : List Bool) → Hold ts → all ts ≡ true
unfolding all
hold [] h = refl
hold (t ∷ []) h = h.0
hold (t ∷ u ∷ ts) h = both t (all (u ∷ ts)) h.0 (hold (u ∷ ts) h.1)

-- ---- the settings
pub settings_sound : (s : Settings) → settings_rule s ≡ true → Sound s
unfolding settings_rule
settings_sound s h =
    let t = held _ h in
    record {
      address = (leb-true _ _ t.0, leb-true _ _ t.1.0);
      page = leb-true _ _ t.1.1.0;
      erase = leb-true _ _ t.1.1.1.0;
      polls = (leb-true _ _ t.1.1.1.1.1.0, leb-true _ _ t.1.1.1.1.0);
    }

pub sound_settings : (s : Settings) → Sound s → settings_rule s ≡ true
unfolding settings_rule
sound_settings s o =
    hold _
    (le-leb _ _ o.address.0, (le-leb _ _ o.address.1, (le-leb _ _ o.page, (le-leb _ _ o.erase, (le-leb _ _ o.polls.1, (le-leb _ _ o.polls.0, tt))))))

-- ---- a program's addresses
pub record InOrder (J : Job) : Type 0 where
  pub first : J.base ≤ J.from
  pub data' : J.from ≤ J.last
  pub span : J.last ≤ J.top

pub in_order_lem : (J : Job) → job_ordered J ≡ true → InOrder J
unfolding job_ordered
in_order_lem J h = let t = held _ h in record { first = leb-true _ _ t.0; data' = leb-true _ _ t.1.0; span = leb-true _ _ t.1.1.0 }

pub ordered_job : (J : Job) → InOrder J → job_ordered J ≡ true
unfolding job_ordered
ordered_job J o = hold _ (le-leb _ _ o.first, (le-leb _ _ o.data', (le-leb _ _ o.span, tt)))

module _ (s : Settings) (J : Job) (h : job_rule s J ≡ true) where
  pub job_order : job_ordered J ≡ true
  unfolding job_rule
  job_order = (held _ h).0

  pub job_span : accepted_range s J.base (span_of J) ≡ true
  unfolding job_rule
  job_span = (held _ h).1.0

  pub job_ordered_lem : Ordered J
  job_ordered_lem =
      let o = in_order_lem J job_order in
      let l = accepted_32 s J.base (span_of J) job_span in
      record { first = o.first; data' = o.data'; span = o.span; top = omega arith }

pub job_rule_lem : (s : Settings) (J : Job) → InOrder J → accepted_range s J.base (span_of J) ≡ true → job_rule s J ≡ true
unfolding job_rule
job_rule_lem s J o h = hold _ (ordered_job J o, (h, tt))

pub plan_job : (s : Settings) (types : Bool) (J : Job) → plan_rule s types J ≡ true → job_rule s J ≡ true
unfolding plan_rule
plan_job s types J h = (held _ h).0

pub plan_types : (s : Settings) (types : Bool) (J : Job) → plan_rule s types J ≡ true → types ≡ true
unfolding plan_rule
plan_types s types J h = (held _ h).1.0

pub plan_rule_lem : (s : Settings) (types : Bool) (J : Job) → job_rule s J ≡ true → types ≡ true → plan_rule s types J ≡ true
unfolding plan_rule
plan_rule_lem s types J h k = hold _ (h, (k, tt))

-- ---- what a program writes
pub record Writes (s : Settings) (J : Job) (to : ℕ) : Type 0 where
  pub job : job_rule s J ≡ true
  pub data' : J.last ≤ J.base + to
  pub within : J.base + to ≤ J.top

pub written : (s : Settings) (J : Job) (to : ℕ) → written_rule s J to ≡ true → Writes s J to
unfolding written_rule
written s J to h = let t = held _ h in record { job = t.0; data' = leb-true _ _ t.1.0; within = leb-true _ _ t.1.1.0 }

pub written_rule_lem : (s : Settings) (J : Job) (to : ℕ) → Writes s J to → written_rule s J to ≡ true
unfolding written_rule
written_rule_lem s J to w = hold _ (w.job, (le-leb _ _ w.data', (le-leb _ _ w.within, tt)))
