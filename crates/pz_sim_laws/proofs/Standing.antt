-- Members of a system, as the configuration has them.
use Rattle.std.proofs.Common.{◌≡◌, ◌<◌, ◌≤◌, ◌+◌, ◌-◌, ◌⊎◌, inl, inr, ℕ, suc, List, [], ◌∷◌, length, Option, Some, None, sym, subst, ap, ◌∙◌, arith}
use Rattle.std.specs.Prelude.{slice_get}
use Rattle.std.proofs.lemmas.Bool.{cases_lt}
use Rattle.std.proofs.lemmas.Option.{same_Some, slice_get_within}
use Rattle.pz_bind_levels.specs.Places.{Address}
use Rattle.pz_tree_standing.specs.pz_bind_rules.Nest.{processes, class_at}
use Rattle.pz_tree_standing.specs.pz_offer.declared.end.End.{End}
use Rattle.pz_tree_standing.specs.pz_offer.PlaceOrder.{Place}
use Rattle.pz_tree_standing.specs.pz_state.States.{StateView}
use Rattle.pz_tree_standing.specs.pz_rules.Terms.{Term}
use Rattle.pz_tree_standing.specs.pz_rules.Settings.{Setting, Process, Context}
use Rattle.pz_tree_standing.specs.pz_rules.Active.{IsActive}
use Rattle.pz_tree_standing.specs.pz_rules.Configurations.{Config, Stands}
use Rattle.pz_tree_standing.specs.pz_rules.Offers.{PartAt}
use Rattle.pz_tree_standing.specs.pz_rules.devices.Walks.{IsThere}
use Rattle.pz_sim_laws.specs.Members.{Member, process_of, config_of, AreMembers}
use Rattle.pz_sim_laws.proofs.Lists.{some_there, got_mapped, from_mapped}

-- the part at this place of process i
abbrev pub end_at : ℕ → Place → End
end_at i place = record { process = i; place = place }

module _ (setting : Setting) (clock : ℕ) (ms : List Member) (are : AreMembers setting clock ms) where
  abbrev pub c : Config
  c = config_of clock ms

  abbrev seen_at : ℕ → Address → StateView → Context
  seen_at i place s = record { setting = setting; process = i; class = class_at setting.model place; clock = clock; state = s }

  pub stands_of : (i : ℕ) (m : Member) → slice_get ms i ≡ Some m → Stands setting c i (process_of m) m.seen
  stands_of i m is =
      let within : i < length (processes setting.model) = subst (λ (n : ℕ). i < n) are.whole (slice_get_within ms i m is) in
      let place = some_there (processes setting.model) i within in
      record { place = place.0; is_process = place.1; is_here = got_mapped process_of ms i m is; seen = are.each i m place.0 is place.1 }

  -- a process of the configuration is a member
  pub record Sits (i : ℕ) (p : Process) (a : Context) : Type 0 where
    pub member : Member
    pub is : slice_get ms i ≡ Some member
    pub process : p ≡ process_of member
    pub seen : a ≡ member.seen

  pub sits_of : (i : ℕ) (p : Process) (a : Context) → Stands setting c i p a → Sits i p a
  sits_of i p a stands =
      let from = from_mapped process_of ms i p stands.is_here in
      record {
        member = from.0;
        is = from.1;
        process = sym from.2;
        seen = stands.seen ∙ ap (λ (q : Process). seen_at i stands.place q.state) (sym from.2) ∙ sym (are.each i from.0 stands.place from.1 stands.is_process);
      }

  pub part_of_member : (i : ℕ) (m : Member) (place : Place) (frame : ℕ) (part : Term) → slice_get ms i ≡ Some m → IsActive m.seen m.term place frame part → PartAt setting c (end_at i place) m.seen frame part
  part_of_member i m place frame part is active = record { process = process_of m; stands = stands_of i m is; active = active }

  -- what holds of an active part, holds in its member
  pub record InMember (holds : Context → ℕ → Term → Type 0) (at : End) : Type 0 where
    pub member : Member
    pub is : slice_get ms at.process ≡ Some member
    pub is_there : IsThere member.seen member.term at.place (holds member.seen)

  pub in_member : (holds : Context → ℕ → Term → Type 0) (at : End) (a : Context) (frame : ℕ) (part : Term) → PartAt setting c at a frame part → holds a frame part → InMember holds at
  in_member holds at a frame part x h =
      let sits = sits_of at.process x.process a x.stands in
      record {
        member = sits.member;
        is = sits.is;
        is_there = record {
          frame = frame;
          part = part;
          active = subst (λ (b : Context). IsActive b sits.member.term at.place frame part) sits.seen (subst (λ (q : Process). IsActive a q.term at.place frame part) sits.process x.active);
          it_holds = subst (λ (b : Context). holds b frame part) sits.seen h;
        };
      }

-- the members from number i on
abbrev pub IsTail : List Member → ℕ → List Member → Type 0
IsTail ms i tail = (k : ℕ) → slice_get tail k ≡ slice_get ms (i + k)

pub next_tail : (ms : List Member) (i : ℕ) (m : Member) (tail : List Member) → IsTail ms i (m ∷ tail) → IsTail ms (suc i) tail
next_tail ms i m tail is k = is (suc k) ∙ ap (slice_get ms) (let e : i + suc k ≡ suc i + k = omega arith in e)

pub first_here : (ms : List Member) (i : ℕ) (m : Member) (tail : List Member) → IsTail ms i (m ∷ tail) → slice_get ms i ≡ Some m
first_here ms i m tail is = ap (slice_get ms) (let e : i ≡ i + 0 = omega arith in e) ∙ sym (is 0)

pub none_left : (ms : List Member) (i : ℕ) → IsTail ms i [] → (k : ℕ) (m : Member) → i ≤ k → slice_get ms k ≡ Some m → ⊥
none_left ms i is k m le here = none_some m (is (k - i) ∙ ap (slice_get ms) (let e : i + (k - i) ≡ k = omega (arith, le) in e) ∙ here)
  where
    none_some : (x : Member) → (let o : Option Member = None in o) ≡ Some x → ⊥
    none_some x e = cc

pub one_here : (ms : List Member) (i k : ℕ) (x m : Member) (tail : List Member) → IsTail ms i (x ∷ tail) → k ≡ i → slice_get ms k ≡ Some m → m ≡ x
one_here ms i k x m tail is same here = same_Some m x (sym here ∙ ap (slice_get ms) same ∙ first_here ms i x tail is)

pub from_cases : (i k : ℕ) → i ≤ k → (k ≡ i) ⊎ (suc i ≤ k)
from_cases i k le = by (cases_lt i k)
  where
    by : (i < k) ⊎ (k ≤ i) → (k ≡ i) ⊎ (suc i ≤ k)
    by (inl less) = inr (omega (arith, less))
    by (inr more) = inl (omega (arith, more, le))

pub all_tail : (ms : List Member) → IsTail ms 0 ms
all_tail ms k = ap (slice_get ms) (let e : k ≡ 0 + k = omega arith in e)
