-- What literals come to: a unit for each, and nothing is changed.
use Rattle.std.proofs.Common.{◌≡◌, ◌<◌, ◌≤◌, ◌+◌, ℕ, max, List, [], ◌∷◌, ◌++◌, length, Ok, Err, Result, pos, All, refl, sym, ap, subst, ◌∙◌, arith, append_assoc, append-nil}
use Rattle.std.proofs.lemmas.List.Elements.{All-head, All-tail}
use Rattle.pz_env_tree.specs.pz_syntax.declared.tokens.Pos.{Pos}
use Rattle.pz_env_tree.specs.pz_syntax.declared.exprs.Literal.{Literal}
use Rattle.pz_env_tree.specs.pz_syntax.declared.exprs.Literal.TheVariants as literal
use Rattle.pz_env_tree.specs.pz_syntax.Expressions as expression
use Rattle.pz_env_tree.specs.pz_syntax.Expressions.{none, more}
use Rattle.pz_env_tree.specs.pz_syntax.Classes.{ModelTree}
use Rattle.pz_env_tree.specs.pz_value.declared.value.Value.{Value}
use Rattle.pz_env_tree.specs.pz_value.declared.value.Value.TheVariants as value
use Rattle.pz_env_tree.specs.pz_classes_code.Literals.{constant}
use Rattle.pz_env_tree.specs.pz_state.declared.fault.FaultKind.{FaultKind}
use Rattle.pz_env_tree.specs.pz_state.States.{StateView}
use Rattle.pz_env_tree.specs.pz_offer.declared.trouble.Trouble.{Trouble}
use Rattle.pz_env_tree.specs.pz_offer.declared.trouble.Trouble.TheVariants.{Spent}
use Rattle.pz_env_tree.specs.pz_eval_rules.declared.allowance.Allowance.{Allowance}
use Rattle.pz_env_tree.specs.pz_eval_rules.declared.outcome.Outcome.{Outcome}
use Rattle.pz_env_tree.specs.pz_eval_rules.declared.outcome.Outcome.TheVariants as outcome
use Rattle.pz_env_tree.specs.pz_eval_rules.declared.outcome.Listed.{Listed}
use Rattle.pz_env_tree.specs.pz_eval_rules.declared.outcome.Listed.TheVariants as listed
use Rattle.pz_env_tree.specs.pz_eval_rules.Memories.{Memory, Location, in_process}
use Rattle.pz_env_tree.specs.pz_eval_rules.Answers.{Stop, Answer, gives, stops, fault, ended, ended_list}
use Rattle.pz_env_tree.specs.pz_eval_rules.Evaluation.{Evaluates, a_constant, Arguments, no_argument, an_argument, an_argument_stops}
use Rattle.pz_env_tree.specs.pz_eval_rules.Outcomes.{Within, outside, Finds, a_value, a_fault, too_much, FindsAll, all_values, one_fault, all_too_much, ComesTo, AllComeTo}
use Rattle.pz_env_tree.specs.pz_rules.Settings.{Context}
use Rattle.pz_env_tree.specs.pz_rules.Meanings.{and_then, duration}
use Rattle.pz_env_tree.specs.pz_rules.Evaluations.{allowance, value_or_trouble, values_or_trouble, Gives, GivesPart, Lasts}
use Rattle.pz_env_tree.specs.EnvironmentClass.{literal_of}
use Rattle.pz_env_mimics.specs.Environments.{literals, arguments}

-- the value is that of its literal
abbrev pub IsConstant : Value → Type 0
IsConstant v = constant (literal_of v) ≡ v

stop_apart : {A : Type 0} (kind : FaultKind) (at : Pos) (y : A) (m : Memory) → stops (fault kind at) ≡ gives y m → ⊥
stop_apart kind at y m e = cc

gives_same : {A : Type 0} (y z : A) (m n : Memory) → gives y m ≡ gives z n → (y ≡ z) × (m ≡ n)
gives_same y z m n e = (cc, cc)

-- One literal

pub record IsAnswer (a : Answer Value) (y : Value) (m : Memory) (u d : ℕ) : Type 0 where
  pub answer : a ≡ gives y m
  pub units : u ≡ 1
  pub depth : d ≡ 1

constant_answer : {model : ModelTree} {now : ℕ} {p : Location} {m : Memory} {at : Pos} {x : Literal} {a : Answer Value} {u d : ℕ}
    → Evaluates model now p m (expression.literal at x) a u d → IsAnswer a (constant x) m u d
constant_answer a_constant = record { answer = refl; units = refl; depth = refl }

module _ (model : ModelTree) (now frame : ℕ) (s : StateView) (at : Pos) (x : Literal) (allowed : Allowance) (paid : 1 ≤ allowed.units) (deep : 1 ≤ allowed.depth) where
  within_one : Within (ComesTo model now frame s (expression.literal at x)) allowed (gives (constant x) (outside s))
  within_one = record { units = 1; depth = 1; derivation = a_constant; paid = paid; deep = deep }

  pub one_found : Finds model now frame s (expression.literal at x) allowed (outcome.Value (constant x)) s
  one_found = a_value within_one refl

  pub one_only : (o : Outcome) (s1 : StateView) → Finds model now frame s (expression.literal at x) allowed o s1 → (o ≡ outcome.Value (constant x)) × (s1 ≡ s)
  one_only _ _ (a_value {a = b} {y = y} {m = n} w e) =
      let is = constant_answer w.derivation in
      let same = gives_same (constant x) y (outside s) n (ap (ended []) (sym is.answer) ∙ e) in
      (ap outcome.Value (sym same.0), ap (λ (k : Memory). k.state) (sym same.1))
  one_only _ _ (a_fault {kind = kind} {at = place} w) =
      absurd (stop_apart kind place (constant x) (outside s) (constant_answer w.derivation).answer)
  one_only _ _ (too_much nothing) = absurd (nothing (gives (constant x) (outside s)) within_one)

-- A list of literals

pub record AreAnswers (a : Answer (List Value)) (ys : List Value) (m : Memory) (u d count : ℕ) : Type 0 where
  pub answer : a ≡ gives ys m
  pub units : u ≡ count
  pub depth : d ≤ 1

-- they are derived
pub record AreDerived (model : ModelTree) (now : ℕ) (p : Location) (m : Memory) (at : Pos) (before values : List Value) : Type 0 where
  pub units : ℕ
  pub depth : ℕ
  pub derivation : Arguments model now p m before (literals at values) (gives (before ++ values) m) units depth
  pub are : units ≡ length values
  pub deep : depth ≤ 1

max_low : (m n : ℕ) → m ≤ 1 → n ≤ 1 → max m n ≤ 1
max_low m n a b = omega (arith, a, b)

module _ (model : ModelTree) (now : ℕ) (p : Location) (m : Memory) (at : Pos) where
  pub derived : (before values : List Value) → All IsConstant values → AreDerived model now p m at before values
  derived before [] plain =
      record {
        units = 0;
        depth = 0;
        derivation = subst (λ (l : List Value). Arguments model now p m before none (gives l m) 0 0) (sym (append-nil before)) no_argument;
        are = refl;
        deep = omega arith;
      }
  derived before (v ∷ vs) plain =
      let is : constant (literal_of v) ≡ v = All-head IsConstant v vs plain in
      let rest = derived (before ++ v ∷ []) vs (All-tail IsConstant v vs plain) in
      let first : Evaluates model now p m (expression.literal at (literal_of v)) (gives v m) 1 1 =
      subst (λ (y : Value). Evaluates model now p m (expression.literal at (literal_of v)) (gives y m) 1 1) is a_constant
      in
      let behind : Arguments model now p m (before ++ v ∷ []) (literals at vs) (gives (before ++ v ∷ vs) m) rest.units rest.depth =
      subst (λ (l : List Value). Arguments model now p m (before ++ v ∷ []) (literals at vs) (gives l m) rest.units rest.depth) (append_assoc before (v ∷ []) vs) rest.derivation
      in
      let count : rest.units ≡ length vs = rest.are in
      record {
        units = 1 + rest.units;
        depth = max 1 rest.depth;
        derivation = an_argument first behind;
        are = omega (arith, count);
        deep = max_low 1 rest.depth (omega arith) rest.deep;
      }

  pub only_derived : (values before : List Value) (a : Answer (List Value)) (u d : ℕ) → All IsConstant values
      → Arguments model now p m before (literals at values) a u d → AreAnswers a (before ++ values) m u d (length values)
  only_derived [] before _ _ _ plain no_argument =
      record { answer = ap (λ (l : List Value). gives l m) (sym (append-nil before)); units = refl; depth = omega arith }
  only_derived (v ∷ vs) before a _ _ plain (an_argument {m1 = n} {y = y} {u1 = u1} {d1 = d1} {u2 = u2} {d2 = d2} first behind) =
      let is : constant (literal_of v) ≡ v = All-head IsConstant v vs plain in
      let one = constant_answer first in
      let same = gives_same y (constant (literal_of v)) n m one.answer in
      let y_is : y ≡ v = same.0 ∙ is in
      let moved : Arguments model now p m (before ++ v ∷ []) (literals at vs) a u2 d2 =
      subst (λ (k : Memory). Arguments model now p k (before ++ v ∷ []) (literals at vs) a u2 d2) same.1
      (subst (λ (z : Value). Arguments model now p n (before ++ z ∷ []) (literals at vs) a u2 d2) y_is behind)
      in
      let rest = only_derived vs (before ++ v ∷ []) a u2 d2 (All-tail IsConstant v vs plain) moved in
      let paid : u1 ≡ 1 = one.units in
      let deep : d1 ≡ 1 = one.depth in
      let further : u2 ≡ length vs = rest.units in
      let low : d2 ≤ 1 = rest.depth in
      record {
        answer = rest.answer ∙ ap (λ (l : List Value). gives l m) (append_assoc before (v ∷ []) vs);
        units = omega (arith, paid, further);
        depth = max_low d1 d2 (omega (arith, deep)) low;
      }
  only_derived (v ∷ vs) before _ _ _ plain (an_argument_stops {e = e} first) =
      absurd (apart e (constant (literal_of v)) (constant_answer first).answer)
    where
      apart : (e : Stop) (y : Value) → stops e ≡ gives y m → ⊥
      apart e y h = cc

module _ (model : ModelTree) (now frame : ℕ) (s : StateView) (at : Pos) (values : List Value) (plain : All IsConstant values) (allowed : Allowance) (deep : 1 ≤ allowed.depth) where
  within_all : length values ≤ allowed.units → Within (AllComeTo model now frame s (literals at values)) allowed (gives values (outside s))
  within_all paid =
      let is = derived model now (in_process frame) (outside s) at [] values plain in
      let low : is.depth ≤ 1 = is.deep in
      let count : is.units ≡ length values = is.are in
      record { units = is.units; depth = is.depth; derivation = is.derivation; paid = omega (arith, paid, count); deep = omega (arith, deep, low) }

  pub all_found : length values ≤ allowed.units → FindsAll model now frame s (literals at values) allowed (listed.Values values) s
  all_found paid = all_values (within_all paid) refl

  answers_are : (a : Answer (List Value)) → (w : Within (AllComeTo model now frame s (literals at values)) allowed a)
      → AreAnswers a values (outside s) w.units w.depth (length values)
  answers_are a w = only_derived model now (in_process frame) (outside s) at values [] a w.units w.depth plain w.derivation

  pub all_only : length values ≤ allowed.units → (o : Listed) (s1 : StateView) → FindsAll model now frame s (literals at values) allowed o s1
      → (o ≡ listed.Values values) × (s1 ≡ s)
  all_only paid _ _ (all_values {a = b} {ys = ys} {m = n} w e) =
      let is = answers_are b w in
      let same = gives_same values ys (outside s) n (ap ended_list (sym is.answer) ∙ e) in
      (ap listed.Values (sym same.0), ap (λ (k : Memory). k.state) (sym same.1))
  all_only paid _ _ (one_fault {kind = kind} {at = place} w) =
      absurd (stop_apart kind place values (outside s) (answers_are (stops (fault kind place)) w).answer)
  all_only paid _ _ (all_too_much nothing) = absurd (nothing (gives values (outside s)) (within_all paid))

  nothing_within : allowed.units < length values → (a : Answer (List Value)) → Within (AllComeTo model now frame s (literals at values)) allowed a → ⊥
  nothing_within many a w =
      let is = answers_are a w in
      let count : w.units ≡ length values = is.units in
      let paid : w.units ≤ allowed.units = w.paid in
      omega (arith, many, count, paid)

  pub all_spent : allowed.units < length values → FindsAll model now frame s (literals at values) allowed listed.Spent s
  all_spent many = all_too_much (nothing_within many)

  pub only_spent : allowed.units < length values → (o : Listed) (s1 : StateView) → FindsAll model now frame s (literals at values) allowed o s1
      → (o ≡ listed.Spent) × (s1 ≡ s)
  only_spent many _ _ (all_values {a = b} w e) = absurd (nothing_within many b w)
  only_spent many _ _ (one_fault {kind = kind} {at = place} w) = absurd (nothing_within many (stops (fault kind place)) w)
  only_spent many _ _ (all_too_much nothing) = (refl, refl)

-- What they are in a statement

module _ (a : Context) (f : ℕ) (at : Pos) (deep : 1 ≤ a.setting.limits.depth) where
  module _ (paid : 1 ≤ a.setting.limits.units) (n : ℕ) where
    number_given : Gives a f at (expression.literal at (literal.Int (pos n))) (Ok (value.Int (pos n))) a.state
    number_given =
        record {
          outcome = outcome.Value (value.Int (pos n));
          finds = one_found a.setting.model a.clock f a.state at (literal.Int (pos n)) (allowance a.setting.limits) paid deep;
          means = refl;
        }

    pub number_lasts : Lasts a f at (expression.literal at (literal.Int (pos n))) (Ok n)
    number_lasts = record { found = Ok (value.Int (pos n)); left = a.state; gives = number_given; means = refl }

    pub number_only : (r : Result ℕ Trouble) → Lasts a f at (expression.literal at (literal.Int (pos n))) r → r ≡ Ok n
    number_only r is =
        let one = one_only a.setting.model a.clock f a.state at (literal.Int (pos n)) (allowance a.setting.limits) paid deep is.gives.outcome is.left is.gives.finds in
        let given : is.found ≡ Ok (value.Int (pos n)) = is.gives.means ∙ ap (value_or_trouble a.process at) one.0 in
        is.means ∙ ap (λ (x : Result Value Trouble). and_then x (duration a.process at)) given

  module _ (values : List Value) (plain : All IsConstant values) where
    pub arguments_given : length values ≤ a.setting.limits.units → GivesPart a f at (arguments at values) (Ok values) a.state
    arguments_given paid = by values plain paid
      where
        by : (vs : List Value) → All IsConstant vs → length vs ≤ a.setting.limits.units → GivesPart a f at (arguments at vs) (Ok vs) a.state
        by [] all low = (refl, refl)
        by (v ∷ vs) all low =
            record { outcome = listed.Values (v ∷ vs); finds = all_found a.setting.model a.clock f a.state at (v ∷ vs) all (allowance a.setting.limits) deep low; means = refl }

    pub arguments_only : length values ≤ a.setting.limits.units → (r : Result (List Value) Trouble) (s : StateView)
        → GivesPart a f at (arguments at values) r s → (r ≡ Ok values) × (s ≡ a.state)
    arguments_only paid r s = by values plain paid
      where
        by : (vs : List Value) → All IsConstant vs → length vs ≤ a.setting.limits.units → GivesPart a f at (arguments at vs) r s → (r ≡ Ok vs) × (s ≡ a.state)
        by [] all low is = is
        by (v ∷ vs) all low is =
            let only = all_only a.setting.model a.clock f a.state at (v ∷ vs) all (allowance a.setting.limits) deep low is.outcome s is.finds in
            (is.means ∙ ap (values_or_trouble a.process at) only.0, only.1)

    pub arguments_spent : a.setting.limits.units < length values → GivesPart a f at (arguments at values) (Err (Spent a.process at)) a.state
    arguments_spent many = by values plain many
      where
        by : (vs : List Value) → All IsConstant vs → a.setting.limits.units < length vs → GivesPart a f at (arguments at vs) (Err (Spent a.process at)) a.state
        by [] all many = absurd (omega (arith, many))
        by (v ∷ vs) all many =
            record { outcome = listed.Spent; finds = all_spent a.setting.model a.clock f a.state at (v ∷ vs) all (allowance a.setting.limits) deep many; means = refl }

    pub arguments_only_spent : a.setting.limits.units < length values → (r : Result (List Value) Trouble) (s : StateView)
        → GivesPart a f at (arguments at values) r s → r ≡ Err (Spent a.process at)
    arguments_only_spent many r s = by values plain many
      where
        by : (vs : List Value) → All IsConstant vs → a.setting.limits.units < length vs → GivesPart a f at (arguments at vs) r s → r ≡ Err (Spent a.process at)
        by [] all many is = absurd (omega (arith, many))
        by (v ∷ vs) all many is =
            let only = only_spent a.setting.model a.clock f a.state at (v ∷ vs) all (allowance a.setting.limits) deep many is.outcome s is.finds in
            is.means ∙ ap (values_or_trouble a.process at) only.0
