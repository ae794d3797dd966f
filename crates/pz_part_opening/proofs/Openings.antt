-- How statements that wait open, and alternatives one by one.
use Rattle.std.proofs.Common.{◌≡◌, ℕ, suc, ◌<◌, ◌≤◌, ◌+◌, true, false, List, [], ◌∷◌, ◌++◌, take, drop, length, get_or, Some, None, refl, sym, subst, ap, ◌∙◌, arith}
use Rattle.std.specs.Prelude.{Bool, ◌==◌}
use Rattle.std.specs.List.{slice_get}
use Rattle.std.specs.Borrow.{Bor}
use Rattle.std.proofs.lemmas.Bool.{true≢false, eqb-true}
use Rattle.std.proofs.lemmas.Option.{same_Some, none-some}
use Rattle.std.proofs.lemmas.List.{take_more}
use Rattle.pz_classes_code.specs.declared.step.Step.{Step}
use Rattle.pz_classes_code.specs.StepView as step
use Rattle.pz_rules.specs.declared.term.Term.{Term, fold-roll-Term}
use Rattle.pz_rules.specs.declared.term.Term.TheOpen.{Term-F}
use Rattle.pz_rules.specs.declared.term.Term.TheVariants.{Done, Leaf, Seq, rolls-Done, rolls-Leaf, rolls-Seq}
use Rattle.pz_rules.specs.pz_state.States.{StateView}
use Rattle.pz_rules.specs.pz_state.Marks.{Seen, changed, marked, kept}
use Rattle.pz_rules.specs.Terms as terms
use Rattle.pz_rules.specs.Terms.{Terms, no_terms, and}
use Rattle.pz_rules.specs.Settings.{Process, Home}
use Rattle.pz_rules.specs.Opening.{Beside, steps_opened, branches_opened, opened, opened_all}
use Rattle.pz_rules.specs.Becoming.{Became}
use Rattle.pz_rules.specs.View.{term_view, term_step, terms_view, branches_view}
use Rattle.pz_part_opening.specs.declared.spot.Spot.{Spot}
use Rattle.pz_part_opening.specs.declared.spot.Spot.TheVariants.{Several}
use Rattle.pz_part_opening.specs.devices.Spots.{spot_view}
use Rattle.pz_part_opening.specs.devices.Rounds.{BecameBeside}

term_seq : (t : Term) (rest : List Step) → term_view (Seq t rest) ≡ terms.sequence (term_view t) (step.sequence_view rest)
term_seq t rest = ap term_view (sym (rolls-Seq t rest)) ∙ fold-roll-Term terms.Term term_step (Term-F.Seq t rest)

pub view_Leaf : (s : Step) → term_view (Leaf s) ≡ terms.leaf (step.view s)
view_Leaf s = ap term_view (sym (rolls-Leaf s)) ∙ fold-roll-Term terms.Term term_step (Term-F.Leaf s)

view_Done : term_view Done ≡ terms.done
view_Done = ap term_view (sym rolls-Done) ∙ fold-roll-Term terms.Term term_step Term-F.Done

-- statements that wait, by the first of them

pub none_waits : (h : Home) (rest : List Step) (s : Seen) → None ≡ slice_get rest 0 → Became (opened_all h (step.sequence_view rest) s.held) (term_view Done) s s
none_waits h [] s none = record { term = view_Done; state = refl }
none_waits h (r ∷ rest) s none = absurd (none-some r none)

module _ (h : Home) (r : Step) (t : Term) (old new : Seen) (became : Became (opened h (step.view r) old.held) (term_view t) old new) where
  pub one_waits : (rest : List Step) → Some r ≡ slice_get rest 0 → (length (drop 1 rest) == 0) ≡ true → Became (opened_all h (step.sequence_view rest) old.held) (term_view t) old new
  one_waits [] first none = absurd (none-some r (sym first))
  one_waits (q ∷ []) first none = subst (λ (x : Step). Became (opened h (step.view x) old.held) (term_view t) old new) (same_Some r q first) became
  one_waits (q ∷ p ∷ rest) first none =
      let no_more : length (p ∷ rest) ≡ 0 = eqb-true (length (p ∷ rest)) 0 none in
      absurd (omega (arith, no_more))

  pub more_wait : (rest behind : List Step) (boxed : Term) → Some r ≡ slice_get rest 0 → behind ≡ drop 1 rest → boxed ≡ t → (length behind == 0) ≡ false
      → Became (opened_all h (step.sequence_view rest) old.held) (term_view (Seq boxed behind)) old new
  more_wait [] behind boxed first is same some = absurd (none-some r (sym first))
  more_wait (q ∷ []) behind boxed first is same some = absurd (true≢false (ap (λ (l : List Step). length l == 0) (sym is) ∙ some))
  more_wait (q ∷ p ∷ rest) behind boxed first is same some =
      let waits = step.sequence_view (p ∷ rest) in
      let began : Became (opened h (step.view q) old.held) (term_view t) old new = subst (λ (x : Step). Became (opened h (step.view x) old.held) (term_view t) old new) (same_Some r q first) became in
      record {
        term = ap (λ (l : List Step). term_view (Seq boxed l)) is ∙ term_seq boxed (p ∷ rest) ∙ ap (λ (x : Term). terms.sequence (term_view x) waits) same
            ∙ ap (λ (x : terms.Term). terms.sequence x waits) began.term;
        state = began.state;
      }

-- two statements or more

some_there : (n : ℕ) → (suc n == 0) ≡ false
some_there n = by (suc n == 0) refl
  where
    by : (b : Bool) → (suc n == 0) ≡ b → (suc n == 0) ≡ false
    by true e = absurd (omega (arith, eqb-true (suc n) 0 e))
    by false e = e

several_open : (h : Home) (ts waiting : List Step) (r : Step) (t boxed : Term) (old new : Seen) → 2 ≤ length ts → r ≡ get_or ts 0 r → waiting ≡ drop 1 ts → boxed ≡ t
    → Became (opened h (step.view r) old.held) (term_view t) old new → Became (opened_all h (step.sequence_view ts) old.held) (term_view (Seq boxed waiting)) old new
several_open h [] waiting r t boxed old new two is behind same began = absurd (omega (arith, two))
several_open h (q ∷ []) waiting r t boxed old new two is behind same began = absurd (omega (arith, two))
several_open h (q ∷ p ∷ rest) waiting r t boxed old new two is behind same began = more_wait h r t old new began (q ∷ p ∷ rest) waiting boxed (ap (λ (x : Step). Some x) is) behind same
    (ap (λ (l : List Step). length l == 0) behind ∙ some_there (length rest))

-- one alone
one_opens : (h : Home) (ts : List Step) (r : Step) (t : terms.Term) (old new : Seen) → length ts ≡ 1 → r ≡ get_or ts 0 r
    → Became (opened h (step.view r) old.held) t old new → Became (opened_all h (step.sequence_view ts) old.held) t old new
one_opens h [] r t old new one is began = absurd (omega (arith, one))
one_opens h (q ∷ []) r t old new one is began = subst (λ (x : Step). Became (opened h (step.view x) old.held) t old new) is began
one_opens h (q ∷ p ∷ rest) r t old new one is began = absurd (omega (arith, one))

none_open : (h : Home) (ts : List Step) (s : Seen) → length ts < 1 → Became (opened_all h (step.sequence_view ts) s.held) (term_view Done) s s
none_open h [] s empty = record { term = view_Done; state = refl }
none_open h (q ∷ rest) s empty = absurd (omega (arith, empty))

-- where they stand
module _ (h : Home) (spot : Spot) (steps : Bor (List Step)) (ts : List Step) (is : spot ≡ Several steps) (same : ts ≡ steps.now) where
  viewed : step.sequence_view ts ≡ spot_view spot
  viewed = ap step.sequence_view same ∙ ap spot_view (sym is)

  at_spot : (t : terms.Term) (old new : Seen) → Became (opened_all h (step.sequence_view ts) old.held) t old new → Became (opened_all h (spot_view spot) old.held) t old new
  at_spot t old new = subst (λ (xs : terms.Steps). Became (opened_all h xs old.held) t old new) viewed

  pub none_there : (s : Seen) → length ts < 1 → Became (opened_all h (spot_view spot) s.held) (term_view Done) s s
  none_there s empty = at_spot (term_view Done) s s (none_open h ts s empty)

  pub one_there : (r : Step) (t : terms.Term) (old new : Seen) → length ts ≡ 1 → r ≡ get_or ts 0 r → Became (opened h (step.view r) old.held) t old new → Became (opened_all h (spot_view spot) old.held) t old new
  one_there r t old new one first began = at_spot t old new (one_opens h ts r t old new one first began)

  pub several_there : (waiting : List Step) (r : Step) (t boxed : Term) (old new : Seen) → 2 ≤ length ts → r ≡ get_or ts 0 r → waiting ≡ drop 1 ts → boxed ≡ t
      → Became (opened h (step.view r) old.held) (term_view t) old new → Became (opened_all h (spot_view spot) old.held) (term_view (Seq boxed waiting)) old new
  several_there waiting r t boxed old new two first behind boxed_is began = at_spot (term_view (Seq boxed waiting)) old new (several_open h ts waiting r t boxed old new two first behind boxed_is began)

-- alternatives, with a further one at the end

abbrev with_last : Terms → terms.Term → Terms
with_last no_terms x = and x no_terms
with_last (and t ts) x = and t (with_last ts x)

terms_push : (ts : List Term) (t : Term) → terms_view (ts ++ t ∷ []) ≡ with_last (terms_view ts) (term_view t)
terms_push [] t = refl
terms_push (u ∷ ts) t = ap (and (term_view u)) (terms_push ts t)

module _ (enter : terms.Step → StateView → Process) where
  abbrev followed : Beside → terms.Steps → Beside
  followed xs ts = let x = steps_opened enter ts xs.state in record { terms = with_last xs.terms x.term; state = x.state }

  abbrev before : terms.Term → Beside → Beside
  before t xs = record { terms = and t xs.terms; state = xs.state }

  branches_push : (bs : List (List Step)) (b : List Step) (s : StateView) → branches_opened enter (branches_view (bs ++ b ∷ [])) s ≡ followed (branches_opened enter (branches_view bs) s) (step.sequence_view b)
  branches_push [] b s = refl
  branches_push (c ∷ bs) b s = let x = steps_opened enter (step.sequence_view c) s in ap (before x.term) (branches_push bs b x.state)

  pub branch_opened : (ts grown : List Term) (t : Term) (bs : List (List Step)) (i : ℕ) (b : List Step) (old mid new : Seen) → i < length bs → b ≡ get_or bs i b → grown ≡ ts ++ t ∷ []
      → Became (steps_opened enter (step.sequence_view b) mid.held) (term_view t) mid new
      → BecameBeside (branches_opened enter (branches_view (take i bs)) old.held) (terms_view ts) old mid
      → BecameBeside (branches_opened enter (branches_view (take (i + 1) bs)) old.held) (terms_view grown) old new
  branch_opened ts grown t bs i b old mid new within is more became so_far =
      let xs = branches_opened enter (branches_view (take i bs)) old.held in
      let at_mid : mid.held ≡ xs.state = ap (λ (s : Seen). s.held) so_far.state in
      let x = steps_opened enter (step.sequence_view b) xs.state in
      let began : Became x (term_view t) mid new = subst (λ (s : StateView). Became (steps_opened enter (step.sequence_view b) s) (term_view t) mid new) at_mid became in
      let whole : branches_opened enter (branches_view (take (i + 1) bs)) old.held ≡ followed xs (step.sequence_view b)
      = ap (λ (cs : List (List Step)). branches_opened enter (branches_view cs) old.held) (take_more bs i b within)
      ∙ ap (λ (c : List Step). branches_opened enter (branches_view (take i bs ++ c ∷ [])) old.held) (sym is)
      ∙ branches_push (take i bs) b old.held in
      record {
        terms = ap terms_view more ∙ terms_push ts t ∙ ap (λ (us : Terms). with_last us (term_view t)) so_far.terms ∙ ap (λ (u : terms.Term). with_last xs.terms u) began.term
            ∙ ap (λ (ys : Beside). ys.terms) (sym whole);
        state = began.state ∙ ap (λ (s : Seen). changed s x.state) so_far.state ∙ ap (λ (ys : Beside). changed old ys.state) (sym whole);
      }

-- behind a mark that is kept
pub kept_became : (h g : Home) (ts us : List Step) (t : terms.Term) (old mid new last : Seen) (point : ℕ) → h ≡ g → ts ≡ us → mid ≡ marked old point → last ≡ kept new
    → Became (opened_all h (step.sequence_view ts) mid.held) t mid new → Became (opened_all g (step.sequence_view us) old.held) t old last
kept_became h g ts us t old mid new last point home same at_mark keeps became =
    let p : Process = opened_all h (step.sequence_view ts) mid.held in
    let whole : p ≡ opened_all g (step.sequence_view us) old.held
    = ap (λ (x : Home). opened_all x (step.sequence_view ts) mid.held) home ∙ ap (λ (xs : List Step). opened_all g (step.sequence_view xs) mid.held) same
    ∙ ap (λ (s : Seen). opened_all g (step.sequence_view us) s.held) at_mark in
    record {
      term = became.term ∙ ap (λ (x : Process). x.term) whole;
      state = keeps ∙ ap kept became.state ∙ ap (λ (s : Seen). kept (changed s p.state)) at_mark ∙ ap (λ (x : Process). changed old x.state) whole;
    }
