-- Processes of the model start as they do without the one more.
use Rattle.std.proofs.Common.{◌≡◌, ◌<◌, ◌≤◌, ◌+◌, ◌⊎◌, inl, inr, ℕ, List, [], ◌∷◌, length, Some, refl, sym, subst, ap, ◌∙◌, arith}
use Rattle.std.specs.Prelude.{slice_get}
use Rattle.std.proofs.lemmas.Bool.{cases_lt}
use Rattle.std.proofs.lemmas.Option.{slice_get_within}
use Rattle.std.proofs.lemmas.List.{length-append}
use Rattle.pz_rules.specs.pz_syntax.Classes.{ModelTree}
use Rattle.pz_rules.specs.pz_value.declared.value.Value.{Value}
use Rattle.pz_rules.specs.pz_classes_rules.Starts.{init}
use Rattle.pz_bind_levels.specs.Places.{Address}
use Rattle.pz_rules.specs.pz_bind_rules.Nest.{processes, class_at}
use Rattle.pz_rules.specs.pz_bind_rules.Values.{values_at}
use Rattle.pz_rules.specs.pz_state.States.{initial}
use Rattle.pz_rules.specs.Terms.{Step}
use Rattle.pz_rules.specs.Settings.{Setting, Process}
use Rattle.pz_rules.specs.Opening.{opened}
use Rattle.pz_rules.specs.Leaving.{swept}
use Rattle.pz_rules.specs.Configurations.{Config}
use Rattle.pz_rules.specs.Starting.{begins_with, StartsAs, IsStart}
use Rattle.pz_env_same.specs.SameRules.{home_in, SameProcess, SameRules, in_model}
use Rattle.pz_env_same.specs.OneMore.{OneMore, IsOf, number_of_more}
use Rattle.pz_env_same.specs.SystemLaws.{MoreStarts, HasStart}
use Rattle.pz_env_same.proofs.Lists.{split_last}
use Rattle.pz_env_same.proofs.Openings.{opened_same}
use Rattle.pz_env_same.proofs.Leading.{config}
use Rattle.pz_env_same.proofs.Behind.{place_there, here_there, last_process, last_number, last_is}

-- One process

module _ (n : ModelTree) (g : Setting) (place : Address) (same : SameProcess g.model n place) where
  abbrev there : Setting
  there = in_model n g

  begins_same : (first : Step) → begins_with g place first ≡ begins_with there place first
  begins_same first =
      ap swept (opened_same g.model n g.limits.edition (class_at g.model place) same.statements first (initial (values_at g.model place)))
      ∙ ap (λ (k : ℕ). swept (opened (home_in n g.limits.edition k) first (initial (values_at g.model place)))) same.class
      ∙ ap (λ (vs : List Value). swept (opened (home_in n g.limits.edition (class_at n place)) first (initial vs))) same.values

  call_same : init g.model (class_at g.model place) ≡ init n (class_at n place)
  call_same = same.init ∙ ap (init n) same.class

  pub starts_there : (q : Process) → StartsAs g place q → StartsAs there place q
  starts_there q is = record { call = is.call; is_call = sym call_same ∙ is.is_call; stands = is.stands ∙ begins_same is.call }

  pub starts_back : (q : Process) → StartsAs there place q → StartsAs g place q
  starts_back q is = record { call = is.call; is_call = call_same ∙ is.is_call; stands = is.stands ∙ sym (begins_same is.call) }

-- All of them

module _ (n : ModelTree) (g : Setting) (c e : Config) (p : Process) (same : SameRules g.model n) (more : OneMore g c e p) where
  pub start_there : IsStart g c → MoreStarts n g p → IsStart (in_model n g) e
  start_there start starts = record {
    clock = more.clock ∙ start.clock;
    all = ap length more.processes ∙ length-append c.processes (p ∷ []) ∙ ap (λ (j : ℕ). j + 1) more.whole
        ∙ sym (ap length same.behind ∙ length-append (processes g.model) (same.more ∷ []));
    each = λ i place q is_place is. by i place q is_place is (cases_lt i (length (processes g.model)));
  }
    where
      by : (i : ℕ) (place : Address) (q : Process) → slice_get (processes n) i ≡ Some place → slice_get e.processes i ≡ Some q
          → (i < length (processes g.model)) ⊎ (length (processes g.model) ≤ i) → StartsAs (in_model n g) place q
      by i place q is_place is (inl of) =
          let here : slice_get (processes g.model) i ≡ Some place = sym (place_there n g c e p same more i of) ∙ is_place in
          starts_there n g place (same.each i place here) q (start.each i place q here (sym (here_there n g c e p same more i of) ∙ is))
      by i place q is_place is (inr past) =
          let number : i ≡ number_of_more g.model = last_number n g c e p same more i q is (λ of. omega (arith, of, past)) in
          subst (λ (x : Process). StartsAs (in_model n g) place x) (sym (last_is n g c e p same more i q is number))
          (starts place (ap (λ (j : ℕ). slice_get (processes n) j) (sym number) ∙ is_place))

module _ (n : ModelTree) (g : Setting) (e : Config) (same : SameRules g.model n) (start : IsStart (in_model n g) e) where
  pub start_back : HasStart n g e
  start_back =
      let k = length (processes g.model) in
      let parts = split_last e.processes k (start.all ∙ ap length same.behind ∙ length-append (processes g.model) (same.more ∷ []) ∙ omega arith) in
      let c : Config = config e.clock parts.front in
      let both : OneMore g c e parts.last = record { whole = parts.long; clock = refl; processes = parts.is } in
      record {
        system = c;
        more = parts.last;
        both = both;
        starts = record {
          clock = start.clock;
          all = parts.long;
          each = λ i place q is_place is.
              let of : IsOf g.model i = slice_get_within (processes g.model) i place is_place in
              starts_back n g place (same.each i place is_place) q
              (start.each i place q (place_there n g c e parts.last same both i of ∙ is_place) (here_there n g c e parts.last same both i of ∙ is));
        };
        more_starts = λ place is_place. start.each k place parts.last is_place (last_process n g c e parts.last same both);
      }
