-- Whether some process is too high, and which is told.
use Rattle.std.proofs.Common.{◌≡◌, ◌≤◌, ◌<◌, ◌⊎◌, inl, inr, ℕ, zero, suc, Bool, true, false, List, [], ◌∷◌, Option, Some, None, refl, sym, subst, ap, ◌∙◌, arith}
use Rattle.std.specs.Prelude.{slice_get, nat_le}
use Rattle.std.proofs.lemmas.Bool.{leb-true, leb-false}
use Rattle.pz_bind_rules.specs.pz_syntax.declared.tokens.Pos.{Pos}
use Rattle.pz_bind_rules.specs.pz_syntax.declared.names.Id.{Id}
use Rattle.pz_bind_rules.specs.pz_syntax.Statements.{call}
use Rattle.pz_bind_rules.specs.pz_classes_rules.Starts.{init}
use Rattle.pz_bind_levels.specs.Places.{Address}
use Rattle.pz_bind_rules.specs.Nest.{processes, class_at}
use Rattle.pz_offer.specs.declared.trouble.Trouble.{Trouble}
use Rattle.pz_offer.specs.declared.trouble.Trouble.TheVariants.{High}
use Rattle.pz_rules.specs.Terms.{Codes, Step, height}
use Rattle.pz_rules.specs.Settings.{Setting, Process, Context}
use Rattle.pz_rules.specs.Configurations.{Config, Stands}
use Rattle.pz_rules.specs.Heights.{IsLow}
use Rattle.pz_rules.specs.Moments.{IsFirstHigh}
use Rattle.pz_rules.proofs.Begun.{begins_with_call}
use Rattle.pz_rules.proofs.Locals.{some_is, no_some}
use Rattle.pz_rules.proofs.Nexts.{stands_once}

-- Of a list of processes

pub record FirstAbove (limit : ℕ) (ps : List Process) : Type 0 where
  pub number : ℕ
  pub process : Process
  pub is_here : slice_get ps number ≡ Some process
  pub high : limit < height process.term
  pub first : (i : ℕ) (p : Process) → slice_get ps i ≡ Some p → i < number → height p.term ≤ limit

abbrev NoneAbove : ℕ → List Process → Type 0
NoneAbove limit ps = (i : ℕ) (p : Process) → slice_get ps i ≡ Some p → height p.term ≤ limit

module _ (limit : ℕ) where
  low_first : (p : Process) (ps : List Process) → height p.term ≤ limit → FirstAbove limit ps ⊎ NoneAbove limit ps → FirstAbove limit (p ∷ ps) ⊎ NoneAbove limit (p ∷ ps)
  low_first p ps low (inl x) = inl (record { number = suc x.number; process = x.process; is_here = x.is_here; high = x.high; first = before })
    where
      before : (i : ℕ) (q : Process) → slice_get (p ∷ ps) i ≡ Some q → i < suc x.number → height q.term ≤ limit
      before zero q is less = subst (λ (r : Process). height r.term ≤ limit) (some_is is) low
      before (suc i) q is less = x.first i q is (omega (arith, less))
  low_first p ps low (inr none) = inr all
    where
      all : NoneAbove limit (p ∷ ps)
      all zero q is = subst (λ (r : Process). height r.term ≤ limit) (some_is is) low
      all (suc i) q is = none i q is

  first_above : (ps : List Process) → FirstAbove limit ps ⊎ NoneAbove limit ps
  first_above [] = inr (λ i p is. no_some is)
  first_above (p ∷ ps) = by (nat_le (height p.term) limit) refl (first_above ps)
    where
      by : (b : Bool) → nat_le (height p.term) limit ≡ b → FirstAbove limit ps ⊎ NoneAbove limit ps → FirstAbove limit (p ∷ ps) ⊎ NoneAbove limit (p ∷ ps)
      by true e rest = low_first p ps (leb-true (height p.term) limit e) rest
      by false e rest = inl (record { number = 0; process = p; is_here = refl; high = leb-false (height p.term) limit e; first = λ i q is less. absurd (omega (arith, less)) })

-- Of a configuration

call_is : {pos at : Pos} {method name : Id} {args given : Codes} → (let o : Option Step = Some (call pos method args []) in o) ≡ Some (call at name given []) → pos ≡ at
call_is e = cc

-- with its place, if it is a call without results
record IsCall (first : Step) : Type 0 where
  pub pos : Pos
  pub method : Id
  pub args : Codes
  pub is : first ≡ call pos method args []

module _ (setting : Setting) (c : Config) where
  abbrev pub NoneHigh : Type 0
  NoneHigh = (trouble : Trouble) → IsFirstHigh setting c trouble → ⊥

  pub low_none : IsLow setting c → NoneHigh
  low_none low trouble x = omega (arith, x.high, low x.number x.process x.stands.is_here)

  -- one process is told
  one_number : (i k : ℕ) (p q : Process) → slice_get c.processes i ≡ Some p → setting.limits.height < height p.term → slice_get c.processes k ≡ Some q → setting.limits.height < height q.term
      → ((j : ℕ) (r : Process) → slice_get c.processes j ≡ Some r → j < i → height r.term ≤ setting.limits.height)
      → ((j : ℕ) (r : Process) → slice_get c.processes j ≡ Some r → j < k → height r.term ≤ setting.limits.height)
      → i ≡ k
  one_number i k p q is high is' high' first first' =
      let here : i < k → ⊥ = λ less. omega (arith, high, first' i p is less) in
      let there : k < i → ⊥ = λ less. omega (arith, high', first k q is' less) in
      omega (arith, here, there)

  pub high_once : (t u : Trouble) → IsFirstHigh setting c t → IsFirstHigh setting c u → t ≡ u
  high_once t u x y =
      let number : x.number ≡ y.number = one_number x.number y.number x.process y.process x.stands.is_here x.high y.stands.is_here y.high x.first y.first in
      let same = stands_once setting c y.number x.process y.process x.seen y.seen (subst (λ (i : ℕ). Stands setting c i x.process x.seen) number x.stands) y.stands in
      let pos : x.pos ≡ y.pos = call_is (sym x.begins ∙ ap (λ (a : Context). init setting.model a.class) same.seen ∙ y.begins) in
      x.says ∙ ap (λ (i : ℕ). High i x.pos) number ∙ ap (λ (at : Pos). High y.number at) pos ∙ sym y.says

  abbrev SomeHigh : Type 0
  SomeHigh = (trouble : Trouble) × IsFirstHigh setting c trouble

  module _ (f : FirstAbove setting.limits.height c.processes) where
    -- what is told is of this process, in the class that its place has
    of_place : (trouble : Trouble) (place : Address) → slice_get (processes setting.model) f.number ≡ Some place → IsFirstHigh setting c trouble → (first : Step) × (init setting.model (class_at setting.model place) ≡ Some first)
    of_place trouble place is x =
        let number : x.number ≡ f.number = one_number x.number f.number x.process f.process x.stands.is_here x.high f.is_here f.high x.first f.first in
        let places : x.stands.place ≡ place = some_is (sym x.stands.is_process ∙ ap (slice_get (processes setting.model)) number ∙ is) in
        (call x.pos x.method x.args [], sym (ap (λ (a : Context). init setting.model a.class) x.stands.seen ∙ ap (λ (z : Address). init setting.model (class_at setting.model z)) places) ∙ x.begins)

    by_call : (place : Address) → slice_get (processes setting.model) f.number ≡ Some place → (o : Option Step) → init setting.model (class_at setting.model place) ≡ o → SomeHigh ⊎ NoneHigh
    by_call place is None e = inr (λ trouble x. let s = of_place trouble place is x in no_some (sym e ∙ s.1))
    by_call place is (Some first) e =
        let h : IsCall first = begins_with_call setting.model IsCall (λ pos method args. record { pos = pos; method = method; args = args; is = refl }) (class_at setting.model place) first e in
        inl (
          High f.number h.pos,
          record {
            number = f.number;
            process = f.process;
            seen = record { setting = setting; process = f.number; class = class_at setting.model place; clock = c.clock; state = f.process.state };
            stands = record { place = place; is_process = is; is_here = f.is_here; seen = refl };
            high = f.high;
            first = f.first;
            pos = h.pos;
            method = h.method;
            args = h.args;
            begins = e ∙ ap Some h.is;
            says = refl;
          },
        )

    by_place : (o : Option Address) → slice_get (processes setting.model) f.number ≡ o → SomeHigh ⊎ NoneHigh
    by_place None e = inr (λ trouble x. no_some (sym e ∙ ap (slice_get (processes setting.model)) (number_is trouble x) ∙ x.stands.is_process))
      where
        number_is : (trouble : Trouble) (x : IsFirstHigh setting c trouble) → f.number ≡ x.number
        number_is trouble x = one_number f.number x.number f.process x.process f.is_here f.high x.stands.is_here x.high f.first x.first
    by_place (Some place) e = by_call place e (init setting.model (class_at setting.model place)) refl

  pub high_or_none : SomeHigh ⊎ NoneHigh
  high_or_none = by (first_above setting.limits.height c.processes)
    where
      by : FirstAbove setting.limits.height c.processes ⊎ NoneAbove setting.limits.height c.processes → SomeHigh ⊎ NoneHigh
      by (inl f) = by_place f (slice_get (processes setting.model) f.number) refl
      by (inr low) = inr (low_none low)
