-- How high processes begin.
use Rattle.std.proofs.Common.{◌≡◌, ◌≤◌, ◌<◌, ◌+◌, ◌⊎◌, inl, inr, min, ℕ, zero, suc, List, [], ◌∷◌, length, map, Option, Some, None, refl, sym, ap, subst, ◌∙◌, arith}
use Rattle.std.specs.Prelude.{slice_get}
use Rattle.std.specs.Option.{option_map, MatchOption}
use Rattle.std.proofs.lemmas.Option.{slice_get-map}
use Rattle.pz_classes_code.specs.pz_syntax.declared.tokens.Pos.{Pos}
use Rattle.pz_classes_code.specs.pz_syntax.declared.names.Id.{Id}
use Rattle.pz_classes_code.specs.pz_syntax.Statements.{call}
use Rattle.pz_classes_code.specs.pz_syntax.Classes.{ModelTree}
use Rattle.pz_classes_code.specs.declared.step.Step as code
use Rattle.pz_classes_code.specs.StepView as step
use Rattle.pz_rules.specs.pz_classes_rules.Soundness.{IsSound}
use Rattle.pz_rules.specs.pz_classes_rules.Starts.{init}
use Rattle.pz_bind_levels.specs.Places.{Address}
use Rattle.pz_rules.specs.pz_bind_rules.Nest.{processes, class_at}
use Rattle.pz_rules.specs.pz_bind_rules.Values.{values_at}
use Rattle.pz_rules.specs.pz_state.States.{StateView, initial}
use Rattle.pz_rules.specs.pz_offer.declared.trouble.Trouble.{Trouble}
use Rattle.pz_rules.specs.pz_offer.declared.trouble.Trouble.TheVariants.{High}
use Rattle.pz_rules.specs.Terms.{Codes, Step, height}
use Rattle.pz_rules.specs.Settings.{Setting, Process, Context, Home}
use Rattle.pz_rules.specs.Opening.{opened}
use Rattle.pz_rules.specs.Starting.{home_at, begins_with, IsStart}
use Rattle.pz_rules.specs.Heights.{IsLow}
use Rattle.pz_rules.specs.Moments.{IsFirstHigh}
use Rattle.pz_rules.specs.Configurations.{Config}
use Rattle.pz_rules.specs.Laws.{OneStart}
use Rattle.pz_rules.specs.devices.Start.{begins_by, start_at, start_of, StartIsComputed}
use Rattle.pz_rules.proofs.Begun.{begins_with_call}
use Rattle.pz_term_processes.specs.devices.Beginnings.{BeginsLow, IsHighAt}
use Rattle.pz_part_actions.specs.StatementPlaces.{statement_place}
use Rattle.pz_part_actions.proofs.StatementPlaces.{step_place}

-- a call without results, at its place
record IsCallAt (first : Step) : Type 0 where
  pub method : Id
  pub args : Codes
  pub is : first ≡ call (statement_place first) method args []

begins_call : (m : ModelTree) (class : ℕ) (first : Step) → init m class ≡ Some first → IsCallAt first
begins_call m class first is = begins_with_call m IsCallAt (λ pos method args. record { method = method; args = args; is = refl }) class first is

module _ (setting : Setting) (place : Address) (first : Step) (is_call : init setting.model (class_at setting.model place) ≡ Some first) (h : Home) (home : h ≡ home_at setting place) where
  begins_so : height (start_at setting place).term ≡ height (opened h first (initial (values_at setting.model place))).term
  begins_so =
      ap (λ (o : Option Step). height (begins_by setting place o).term) is_call
      ∙ ap (λ (k : Home). height (opened k first (initial (values_at setting.model place))).term) (sym home)

  pub begins_low : (found most : ℕ) → most ≡ setting.limits.height → ((s : StateView) → found ≡ min (height (opened h first s).term) (most + 1)) → found ≤ most → height (start_at setting place).term ≤ setting.limits.height
  begins_low found most limit is within =
      let one = is (initial (values_at setting.model place)) in
      omega (arith, one, begins_so, within, limit)

  pub begins_high : (i : ℕ) (trouble : Trouble) (s : code.Step) (found most : ℕ) → most ≡ setting.limits.height → ((s : StateView) → found ≡ min (height (opened h first s).term) (most + 1)) → most < found
      → step.view s ≡ first → trouble ≡ High i s.pos → IsHighAt setting i place trouble
  begins_high i trouble s found most limit is above same says =
      let one = is (initial (values_at setting.model place)) in
      let call = begins_call setting.model (class_at setting.model place) first is_call in
      let here : s.pos ≡ statement_place first = step_place s ∙ ap statement_place same in
      record {
        high = omega (arith, one, begins_so, above, limit);
        pos = statement_place first;
        method = call.method;
        args = call.args;
        begins = is_call ∙ ap Some call.is;
        says = says ∙ ap (High i) here;
      }

-- the first so many processes begin low
abbrev pub AllBeginLow : Setting → ℕ → Type 0
AllBeginLow setting n = (i : ℕ) → i < n → BeginsLow setting i

pub none_yet : (setting : Setting) → AllBeginLow setting 0
none_yet setting i within = absurd (omega (arith, within))

-- what is said of an answer, of what it is
pub of_none : (A : Type 0) (B : Trouble → Type 0) (r : Option Trouble) → ((x : Trouble) → r ≡ Some x → ⊥) → MatchOption r A B → A
of_none A B None absent h = h
of_none A B (Some x) absent h = absurd (absent x refl)

pub of_some : (A : Type 0) (B : Trouble → Type 0) (r : Option Trouble) (x : Trouble) → r ≡ Some x → MatchOption r A B → B x
of_some A B r x is h = subst (λ (o : Option Trouble). MatchOption o A B) is h

pub one_more : (setting : Setting) (n : ℕ) → AllBeginLow setting n → BeginsLow setting n → AllBeginLow setting (n + 1)
one_more setting n all next i within = by (earlier i n (omega (arith, within)))
  where
    earlier : (i n : ℕ) → i ≤ n → (i < n) ⊎ (i ≡ n)
    earlier zero zero le = inr refl
    earlier zero (suc n) le = inl (omega arith)
    earlier (suc i) zero le = absurd (omega (arith, le))
    earlier (suc i) (suc n) le = step_up (earlier i n (omega (arith, le)))
      where
        step_up : (i < n) ⊎ (i ≡ n) → (suc i < suc n) ⊎ (suc i ≡ suc n)
        step_up (inl below) = inl (omega (arith, below))
        step_up (inr same) = inr (ap suc same)

    by : (i < n) ⊎ (i ≡ n) → BeginsLow setting i
    by (inl below) = all i below
    by (inr same) = subst (BeginsLow setting) (sym same) next

-- what stands at the start is an image
begun_at : (setting : Setting) (at : List Address) (i : ℕ) (p : Process) → slice_get (map (start_at setting) at) i ≡ Some p → (place : Address) × (slice_get at i ≡ Some place) × (start_at setting place ≡ p)
begun_at setting [] i p is = absurd cc
begun_at setting (x ∷ xs) zero p is = (x, refl, same is)
  where
    same : {a b : Process} → Some a ≡ Some b → a ≡ b
    same e = cc
begun_at setting (x ∷ xs) (suc i) p is = begun_at setting xs i p is

some_below : {A : Type 0} (xs : List A) (i : ℕ) (x : A) → slice_get xs i ≡ Some x → i < length xs
some_below [] i x is = absurd cc
some_below (y ∷ xs) zero x is = omega arith
some_below (y ∷ xs) (suc i) x is = let later = some_below xs i x is in omega (arith, later)

pub all_low : (setting : Setting) (n : ℕ) → n ≡ length (processes setting.model) → AllBeginLow setting n → IsLow setting (start_of setting)
all_low setting n count all i p is =
    let place = begun_at setting (processes setting.model) i p is in
    let within = some_below (processes setting.model) i place.0 place.1 in
    subst (λ (q : Process). height q.term ≤ setting.limits.height) place.2 (all i (omega (arith, within, count)) place.0 place.1)

pub first_high : (setting : Setting) (i : ℕ) (place : Address) (trouble : Trouble) → slice_get (processes setting.model) i ≡ Some place → AllBeginLow setting i → IsHighAt setting i place trouble → IsFirstHigh setting (start_of setting) trouble
first_high setting i place trouble at before high =
    let seen : Context = record { setting = setting; process = i; class = class_at setting.model place; clock = 0; state = (start_at setting place).state } in
    record {
      number = i;
      process = start_at setting place;
      seen = seen;
      stands = record {
        place = place;
        is_process = at;
        is_here = slice_get-map (start_at setting) (processes setting.model) i ∙ ap (option_map (start_at setting)) at;
        seen = refl;
      };
      high = high.high;
      first = λ k p is below.
          let other = begun_at setting (processes setting.model) k p is in
          subst (λ (q : Process). height q.term ≤ setting.limits.height) other.2 (before k below other.0 other.1);
      pos = high.pos;
      method = high.method;
      args = high.args;
      begins = high.begins;
      says = high.says;
    }

-- a start is the one that is computed
pub starts_low : (setting : Setting) (c : Config) → OneStart → StartIsComputed → IsSound setting.model → IsStart setting c → IsLow setting (start_of setting) → IsLow setting c
starts_low setting c one computed sound start low = subst (IsLow setting) (one setting (start_of setting) c (computed setting sound) start) low
