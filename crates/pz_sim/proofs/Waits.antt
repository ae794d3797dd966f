-- Where time may pass: no process has a trouble, nothing is due before, and what is due is due soon.
use Rattle.std.proofs.Common.{◌≡◌, ◌≤◌, ◌<◌, ◌+◌, ◌-◌, ◌^◌, ℕ, zero, suc, List, [], ◌∷◌, map, Option, Some, None, refl, sym, subst, ap, ◌∙◌, arith}
use Rattle.std.specs.Prelude.{slice_get, IfSome}
use Rattle.std.specs.Option.{option_or, option_map}
use Rattle.std.proofs.Math.Nat.{min-le_left, min-le_right}
use Rattle.std.proofs.lemmas.Option.{same_Some}
use Rattle.pz_rules.specs.pz_offer.Summaries.{least}
use Rattle.pz_rules.specs.pz_offer.declared.trouble.Trouble.{Trouble}
use Rattle.pz_match.specs.Pairs.{Judged, first_trouble}
use Rattle.pz_match.specs.Table.{Table}
use Rattle.pz_rules.specs.declared.moment.Moment.{Moment}
use Rattle.pz_rules.specs.declared.moment.Moment.TheVariants.{Time}
use Rattle.pz_rules.specs.Settings.{Setting, Context}
use Rattle.pz_rules.specs.Terms.{Term}
use Rattle.pz_rules.specs.devices.Walk.{active_parts, noted, waiting}
use Rattle.pz_sim_totals.specs.declared.total.Total.{Total}
use Rattle.pz_sim_totals.specs.Sums as sums
use Rattle.pz_sim_laws.specs.Members.{Member}
use Rattle.pz_sim_laws.specs.Deciding.{total_of, total_of_all, offers_in, calm, unless, decided}
use Rattle.pz_tree.specs.pz_tree_standing.Soon.{IsSoon}
use Rattle.pz_tree.specs.pz_tree_standing.Summaries.{least_of, summary_of}
use Rattle.pz_tree.specs.declared.tree.Tree.{Tree}
use Rattle.pz_tree.specs.Trees.{at_in, term_in, IsFresh}
use Rattle.pz_sim.specs.Members.{member_of, members_of}
use Rattle.pz_sim.specs.devices.Holding.{AreKept}
use Rattle.pz_sim.specs.devices.Passing.{MayPass}
use Rattle.pz_sim.proofs.Replaced.{got_mapped, from_mapped, all_at}

-- what totals say where time passes
pub record Waits (clock d : ℕ) (total : Total) : Type 0 where
  pub untroubled : total.summary.trouble ≡ None
  pub due : ℕ
  pub is_due : total.summary.due ≡ Some due
  pub least : d ≡ due - clock

calm_waits : (clock d n : ℕ) (due : Option ℕ) (left : ℕ) → calm clock n due left ≡ Time d → (x : ℕ) × (due ≡ Some x) × (d ≡ x - clock)
calm_waits clock d (suc n) due left e = cc
calm_waits clock d zero (Some x) left e = (x, refl, (let same : d ≡ x - clock = cc in same))
calm_waits clock d zero None zero e = cc
calm_waits clock d zero None (suc n) e = cc

no_trouble : (t u : Option Trouble) (m : Moment) (d : ℕ) → unless (option_or t u) m ≡ Time d → (t ≡ None) × (m ≡ Time d)
no_trouble (Some t) u m d e = cc
no_trouble None (Some u) m d e = cc
no_trouble None None m d e = (refl, e)

pub waits : (clock d : ℕ) (total : Total) (ps : List Judged) → decided clock total ps ≡ Time d → Waits clock d total
waits clock d total ps e =
    let x = no_trouble total.summary.trouble (first_trouble ps) (calm clock (offers_in total ps) total.summary.due total.unfinished) d e in
    let y = calm_waits clock d (offers_in total ps) total.summary.due total.unfinished x.1 in
    record { untroubled = x.0; due = y.0; is_due = y.1; least = y.2 }

-- of all, and of each

first_none : (t u : Option Trouble) → option_or t u ≡ None → t ≡ None
first_none (Some t) u e = cc
first_none None u e = refl

second_none : (t u : Option Trouble) → option_or t u ≡ None → u ≡ None
second_none (Some t) u e = cc
second_none None u e = e

each_untroubled : (xs : List Total) (i : ℕ) (x : Total) → (sums.all xs).summary.trouble ≡ None → slice_get xs i ≡ Some x → x.summary.trouble ≡ None
each_untroubled [] i x e is = cc
each_untroubled (y ∷ ys) zero x e is = subst (λ (z : Total). z.summary.trouble ≡ None) (same_Some y x is) (first_none y.summary.trouble (sums.all ys).summary.trouble e)
each_untroubled (y ∷ ys) (suc i) x e is = each_untroubled ys i x (second_none y.summary.trouble (sums.all ys).summary.trouble e) is

-- not before this moment
abbrev NotBefore : ℕ → Option ℕ → Type 0
NotBefore c o = IfSome o (λ due. c ≤ due)

first_later : (c : ℕ) (a b : Option ℕ) → NotBefore c (least a b) → NotBefore c a
first_later c None b h = tt
first_later c (Some x) None h = h
first_later c (Some x) (Some y) h = let below = min-le_left x y in omega (arith, h, below)

second_later : (c : ℕ) (a b : Option ℕ) → NotBefore c (least a b) → NotBefore c b
second_later c None b h = h
second_later c (Some x) None h = tt
second_later c (Some x) (Some y) h = let below = min-le_right x y in omega (arith, h, below)

each_later : (c : ℕ) (xs : List Total) (i : ℕ) (x : Total) → NotBefore c (sums.all xs).summary.due → slice_get xs i ≡ Some x → NotBefore c x.summary.due
each_later c [] i x h is = cc
each_later c (y ∷ ys) zero x h is = subst (λ (z : Total). NotBefore c z.summary.due) (same_Some y x is) (first_later c y.summary.due (sums.all ys).summary.due h)
each_later c (y ∷ ys) (suc i) x h is = each_later c ys i x (second_later c y.summary.due (sums.all ys).summary.due h) is

both_soon : (c : ℕ) (a b : Option ℕ) → IsSoon c a → IsSoon c b → IsSoon c (least a b)
both_soon c None b h k = k
both_soon c (Some x) None h k = h
both_soon c (Some x) (Some y) h k = let below = min-le_left x y in omega (arith, h, below)

all_soon : (c : ℕ) (xs : List Total) → ((i : ℕ) (x : Total) → slice_get xs i ≡ Some x → IsSoon c x.summary.due) → IsSoon c (sums.all xs).summary.due
all_soon c [] each = tt
all_soon c (y ∷ ys) each = both_soon c y.summary.due (sums.all ys).summary.due (each 0 y refl) (all_soon c ys (λ i x is. each (suc i) x is))

-- nothing is due before the clock itself
never_before : (a : Context) (c f : ℕ) (t : Term) → NotBefore c (summary_of a c f t).due
never_before a c f t = by (least_of (noted (waiting a) (active_parts a f t)))
  where
    by : (o : Option ℕ) → NotBefore c (option_map (λ left. c + left) o)
    by None = tt
    by (Some x) = omega arith

-- what is not before one moment and not before another is not before the time between
later_still : (clock d due : ℕ) (o : Option ℕ) → d ≡ due - clock → NotBefore due o → NotBefore clock o → NotBefore (clock + d) o
later_still clock d due None e h k = tt
later_still clock d due (Some x) e h k = omega (arith, e, h, k)

module _ (setting : Setting) (clock d : ℕ) (ts : List Tree) (totals : List Total) (table : Table) (kept : AreKept setting clock ts totals table (Time d)) where
  abbrev ms : List Member
  ms = members_of setting.model ts

  all_wait : Waits clock d (total_of_all clock ms)
  all_wait = waits clock d (total_of_all clock ms) table.pairs (sym kept.is_moment)

  total_at : (i : ℕ) (t : Tree) → slice_get ts i ≡ Some t → slice_get (map (total_of clock) ms) i ≡ Some (total_of clock (member_of setting.model t))
  total_at i t is = got_mapped (total_of clock) ms i (member_of setting.model t) (got_mapped (member_of setting.model) ts i t is)

  -- time may pass over each tree
  pub may_pass_at : (i : ℕ) (t : Tree) → slice_get ts i ≡ Some t → MayPass setting.model (clock + d) t
  may_pass_at i t is =
      let m = setting.model in
      let same : t.clock ≡ clock = all_at (λ (x : Tree). x.clock ≡ clock) ts i t kept.are_trees.clocks is in
      let total = total_of clock (member_of m t) in
      let untroubled : total.summary.trouble ≡ None = each_untroubled (map (total_of clock) ms) i total all_wait.untroubled (total_at i t is) in
      let all_later : NotBefore all_wait.due (total_of_all clock ms).summary.due = subst (NotBefore all_wait.due) (sym all_wait.is_due) (let it : all_wait.due ≤ all_wait.due = omega arith in it) in
      let due : NotBefore all_wait.due total.summary.due = each_later all_wait.due (map (total_of clock) ms) i total all_later (total_at i t is) in
      record {
        fresh = all_at (IsFresh m) ts i t kept.are_trees.fresh is;
        ahead = omega (arith, same);
        untroubled = subst (λ (c : ℕ). (summary_of (at_in m t) c 0 (term_in t)).trouble ≡ None) (sym same) untroubled;
        due = subst (λ (c : ℕ). NotBefore (clock + d) (summary_of (at_in m t) c 0 (term_in t)).due) (sym same)
            (later_still clock d all_wait.due total.summary.due all_wait.least due (never_before (at_in m t) clock 0 (term_in t)));
      }

  -- less than 2^64 clock units pass
  pub time_is_short : d < 2 ^ 64
  time_is_short =
      let soon : IsSoon clock (total_of_all clock ms).summary.due = all_soon clock (map (total_of clock) ms) (λ i x is.
      let a = from_mapped (total_of clock) ms i x is in
      let b = from_mapped (member_of setting.model) ts i a.0 a.1 in
      let same : b.0.clock ≡ clock = all_at (λ (y : Tree). y.clock ≡ clock) ts i b.0 kept.are_trees.clocks b.1 in
      subst (λ (y : Total). IsSoon clock y.summary.due) (ap (total_of clock) b.2 ∙ a.2)
      (subst (λ (c : ℕ). IsSoon c (summary_of (at_in setting.model b.0) c 0 (term_in b.0)).due) same (all_at (IsFresh setting.model) ts i b.0 kept.are_trees.fresh b.1).soon)) in
      let within : all_wait.due < clock + 2 ^ 64 = subst (IsSoon clock) all_wait.is_due soon in
      omega (arith, within, all_wait.least)
