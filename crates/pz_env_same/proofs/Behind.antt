-- A configuration with one process more: the others stand in it as they do without it.
use Rattle.std.proofs.Common.{◌≡◌, ◌<◌, ◌≤◌, ◌+◌, ◌⊎◌, inl, inr, ℕ, List, [], ◌∷◌, length, Some, refl, sym, subst, ap, ◌∙◌, arith}
use Rattle.std.specs.Prelude.{slice_get}
use Rattle.std.proofs.lemmas.Bool.{cases_lt}
use Rattle.std.proofs.lemmas.Option.{same_Some, slice_get_within}
use Rattle.std.proofs.lemmas.List.{length-append}
use Rattle.pz_rules.specs.pz_syntax.Classes.{ModelTree}
use Rattle.pz_bind_levels.specs.Places.{Address}
use Rattle.pz_rules.specs.pz_bind_rules.Nest.{processes, class_at}
use Rattle.pz_rules.specs.pz_offer.declared.end.End.{End}
use Rattle.pz_rules.specs.pz_state.States.{StateView}
use Rattle.pz_rules.specs.Terms.{Term}
use Rattle.pz_rules.specs.Settings.{Setting, Process, Context}
use Rattle.pz_rules.specs.Configurations.{Config, IsWhole, Stands}
use Rattle.pz_rules.specs.Offers.{PartAt}
use Rattle.pz_env_same.specs.SameRules.{SameRules, in_model, seen_in, SeesTheSame}
use Rattle.pz_env_same.specs.OneMore.{OneMore, IsOf, number_of_more}
use Rattle.pz_env_same.specs.SystemLaws.{seen_more}
use Rattle.pz_env_same.proofs.Lists.{got_first, got_last}
use Rattle.pz_env_same.proofs.Parts.{sees_back}
use Rattle.pz_env_same.proofs.Meeting.{Meets, part_meets}

-- as the statements of process i of this class see it
abbrev pub context : Setting → ℕ → ℕ → ℕ → StateView → Context
context g i class clock s = record { setting = g; process = i; class = class; clock = clock; state = s }

-- each process of a model sees the same in one with the same rules
pub processes_see : (n : ModelTree) (g : Setting) (c : Config) (i : ℕ) (q : Process) (a : Context) → SameRules g.model n → Stands g c i q a → SeesTheSame n a
processes_see n g c i q a same st =
    let there : SeesTheSame n (context g i (class_at g.model st.place) c.clock q.state) = record { data_classes = same.data_classes; statements = (same.each i st.place st.is_process).statements } in
    subst (λ (b : Context). SeesTheSame n b) (sym st.seen) there

-- a part is one of a process of the model
pub part_is_of : (g : Setting) (c : Config) (at : End) (a : Context) (f : ℕ) (t : Term) → PartAt g c at a f t → IsOf g.model at.process
part_is_of g c at a f t is = slice_get_within (processes g.model) at.process is.stands.place is.stands.is_process

module _ (n : ModelTree) (g : Setting) (c e : Config) (p : Process) (same : SameRules g.model n) (more : OneMore g c e p) where
  abbrev there : Setting
  there = in_model n g

  pub place_there : (i : ℕ) → IsOf g.model i → slice_get (processes n) i ≡ slice_get (processes g.model) i
  place_there i of = ap (λ (ps : List Address). slice_get ps i) same.behind ∙ got_first (processes g.model) (same.more ∷ []) i of

  pub here_there : (i : ℕ) → IsOf g.model i → slice_get e.processes i ≡ slice_get c.processes i
  here_there i of = ap (λ (ps : List Process). slice_get ps i) more.processes ∙ got_first c.processes (p ∷ []) i (subst (λ (k : ℕ). i < k) (sym more.whole) of)

  pub is_of : (i : ℕ) (q : Process) (a : Context) → Stands g c i q a → IsOf g.model i
  is_of i q a st = slice_get_within (processes g.model) i st.place st.is_process

  pub both_whole : IsWhole there e
  both_whole =
      ap length more.processes ∙ length-append c.processes (p ∷ []) ∙ ap (λ (k : ℕ). k + 1) more.whole
      ∙ sym (ap length same.behind ∙ length-append (processes g.model) (same.more ∷ []))

  pub stands_there : (i : ℕ) (q : Process) (a : Context) → Stands g c i q a → Stands there e i q (seen_in n a)
  stands_there i q a st =
      let of = is_of i q a st in
      let class : class_at g.model st.place ≡ class_at n st.place = (same.each i st.place st.is_process).class in
      record {
        place = st.place;
        is_process = place_there i of ∙ st.is_process;
        is_here = here_there i of ∙ st.is_here;
        seen = ap (λ (b : Context). seen_in n b) st.seen
            ∙ ap (λ (k : ℕ). context there i k c.clock q.state) class
            ∙ ap (λ (t : ℕ). context there i (class_at n st.place) t q.state) (sym more.clock);
      }

  pub stands_back : (i : ℕ) (q : Process) (a : Context) → IsOf g.model i → Stands there e i q a → Stands g c i q (seen_in g.model a)
  stands_back i q a of st =
      let is_process : slice_get (processes g.model) i ≡ Some st.place = sym (place_there i of) ∙ st.is_process in
      let class : class_at g.model st.place ≡ class_at n st.place = (same.each i st.place is_process).class in
      record {
        place = st.place;
        is_process = is_process;
        is_here = sym (here_there i of) ∙ st.is_here;
        seen = ap (λ (b : Context). seen_in g.model b) st.seen
            ∙ ap (λ (k : ℕ). context g i k e.clock q.state) (sym class)
            ∙ ap (λ (t : ℕ). context g i (class_at g.model st.place) t q.state) more.clock;
      }

  -- one that stands there is of the model n
  pub again_there : (i : ℕ) (q : Process) (a : Context) → Stands there e i q a → seen_in n (seen_in g.model a) ≡ a
  again_there i q a st = ap (λ (b : Context). seen_in n (seen_in g.model b)) st.seen ∙ sym st.seen

  pub again_here : (i : ℕ) (q : Process) (a : Context) → Stands g c i q a → seen_in g.model (seen_in n a) ≡ a
  again_here i q a st = ap (λ (b : Context). seen_in g.model (seen_in n b)) st.seen ∙ sym st.seen

  pub sees_there : (i : ℕ) (q : Process) (a : Context) → IsOf g.model i → Stands there e i q a → SeesTheSame g.model a
  sees_there i q a of st =
      let b = seen_in g.model a in
      let sees : SeesTheSame n b = processes_see n g c i q b same (stands_back i q a of st) in
      subst (λ (x : Context). SeesTheSame g.model x) (again_there i q a st) (sees_back n b sees)

  -- the process of this number in both
  pub to_there : (i : ℕ) → IsOf g.model i → Meets g c there e i
  to_there i of = record {
    stands = stands_there i;
    sees = λ q a st. processes_see n g c i q a same st;
    wires = λ port wire. (same.wires i port wire of).0;
  }

  pub from_there : (i : ℕ) → IsOf g.model i → Meets there e g c i
  from_there i of = record {
    stands = λ q a st. stands_back i q a of st;
    sees = λ q a st. sees_there i q a of st;
    wires = λ port wire. (same.wires i port wire of).1;
  }

  -- The one more

  pub last_place : slice_get (processes n) (number_of_more g.model) ≡ Some same.more
  last_place = ap (λ (ps : List Address). slice_get ps (number_of_more g.model)) same.behind ∙ got_last (processes g.model) same.more

  pub last_process : slice_get e.processes (number_of_more g.model) ≡ Some p
  last_process =
      ap (λ (k : ℕ). slice_get e.processes k) (sym more.whole)
      ∙ ap (λ (ps : List Process). slice_get ps (length c.processes)) more.processes ∙ got_last c.processes p

  pub last_number : (i : ℕ) (q : Process) → slice_get e.processes i ≡ Some q → (IsOf g.model i → ⊥) → i ≡ number_of_more g.model
  last_number i q is not_of =
      let within : i < length e.processes = slice_get_within e.processes i q is in
      let long : length e.processes ≡ length c.processes + 1 = ap length more.processes ∙ length-append c.processes (p ∷ []) in
      let whole : length c.processes ≡ length (processes g.model) = more.whole in
      by_order (cases_lt i (length (processes g.model))) within long whole
    where
      by_order : (i < length (processes g.model)) ⊎ (length (processes g.model) ≤ i) → i < length e.processes → length e.processes ≡ length c.processes + 1
          → length c.processes ≡ length (processes g.model) → i ≡ number_of_more g.model
      by_order (inl of) within long whole = absurd (not_of of)
      by_order (inr past) within long whole = omega (arith, past, within, long, whole)

  pub last_is : (i : ℕ) (q : Process) → slice_get e.processes i ≡ Some q → i ≡ number_of_more g.model → q ≡ p
  last_is i q is number = same_Some q p (sym is ∙ ap (λ (k : ℕ). slice_get e.processes k) number ∙ last_process)

  pub more_stands : (i : ℕ) (q : Process) (a : Context) → Stands there e i q a → (IsOf g.model i → ⊥) → (i ≡ number_of_more g.model) × (q ≡ p)
  more_stands i q a st not_of = let number = last_number i q st.is_here not_of in (number, last_is i q st.is_here number)

  pub alone_stands : Stands there e (number_of_more g.model) p (seen_more n g e p same)
  alone_stands = record { place = same.more; is_process = last_place; is_here = last_process; seen = refl }

  -- Parts

  pub part_there : (at : End) (a : Context) (f : ℕ) (t : Term) → PartAt g c at a f t → PartAt there e at (seen_in n a) f t
  part_there at a f t is = part_meets g c there e at (to_there at.process (part_is_of g c at a f t is)) a f t is

  pub part_back : (at : End) (a : Context) (f : ℕ) (t : Term) → IsOf g.model at.process → PartAt there e at a f t → PartAt g c at (seen_in g.model a) f t
  part_back at a f t of is = part_meets there e g c at (from_there at.process of) a f t is
