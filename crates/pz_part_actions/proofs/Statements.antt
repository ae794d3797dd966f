-- Parts that act are statements, each with its place.
use Rattle.std.proofs.Common.{◌≡◌, ℕ, List, refl, sym, subst, ap, ◌∙◌}
use Rattle.pz_classes_code.specs.pz_syntax.declared.tokens.Pos.{Pos}
use Rattle.pz_rules.specs.pz_copy.Parcels.{ParcelView}
use Rattle.pz_classes_code.specs.declared.step.Step.{Step}
use Rattle.pz_classes_code.specs.StepView.{view}
use Rattle.pz_rules.specs.declared.action.Kind.{Kind}
use Rattle.pz_rules.specs.declared.term.Term.{Term, fold-roll-Term}
use Rattle.pz_rules.specs.declared.term.Term.TheOpen.{Term-F}
use Rattle.pz_rules.specs.declared.term.Term.TheVariants.{Leaf, Wait, rolls-Leaf, rolls-Wait}
use Rattle.pz_rules.specs.declared.term.Term.TheViews.{out-Term, roll-Term, roll-out-Term}
use Rattle.pz_rules.specs.Terms as terms
use Rattle.pz_rules.specs.Settings.{Context}
use Rattle.pz_rules.specs.InternalActions as internals
use Rattle.pz_rules.specs.InternalActions.{Can}
use Rattle.pz_rules.specs.Messages as messages
use Rattle.pz_rules.specs.Messages.{Sends, Receives}
use Rattle.pz_rules.specs.View.{term_view, term_step}
use Rattle.pz_part_actions.specs.StatementPlaces.{IsFrom}
use Rattle.pz_part_actions.proofs.StatementPlaces.{step_place}

-- the code's parts

shows_Leaf : (s : Step) → term_view (Leaf s) ≡ terms.leaf (view s)
shows_Leaf s = ap term_view (sym (rolls-Leaf s)) ∙ fold-roll-Term terms.Term term_step (Term-F.Leaf s)

shows_Wait : (left : ℕ) (pos : Pos) → term_view (Wait left pos) ≡ terms.wait left pos
shows_Wait left pos = ap term_view (sym (rolls-Wait left pos)) ∙ fold-roll-Term terms.Term term_step (Term-F.Wait left pos)

pub leaf_from : (t : Term) (s : Step) → t ≡ Leaf s → IsFrom s.pos (term_view t)
leaf_from t s is = subst (IsFrom s.pos) (sym (ap term_view is ∙ shows_Leaf s)) (step_place s)

pub wait_from : (t : Term) (left : ℕ) (pos : Pos) → t ≡ Wait left pos → IsFrom pos (term_view t)
wait_from t left pos is = subst (IsFrom pos) (sym (ap term_view is ∙ shows_Wait left pos)) refl

IsNone : Term → Type 0
IsNone t = ((s : Step) → t ≡ Leaf s → ⊥) × ((left : ℕ) (pos : Pos) → t ≡ Wait left pos → ⊥)

rolled_from : (x : Term-F Term) (pos : Pos) → IsFrom pos (term_view (roll-Term x)) → IsNone (roll-Term x) → ⊥
unfolding IsNone
rolled_from (Term-F.Leaf s) pos from none = none.0 s (rolls-Leaf s)
rolled_from (Term-F.Wait left at) pos from none = none.1 left at (rolls-Wait left at)
rolled_from Term-F.Done pos from none = subst (IsFrom pos) (fold-roll-Term terms.Term term_step Term-F.Done) from
rolled_from (Term-F.Seq t rest) pos from none = subst (IsFrom pos) (fold-roll-Term terms.Term term_step (Term-F.Seq t rest)) from
rolled_from (Term-F.Par ts) pos from none = subst (IsFrom pos) (fold-roll-Term terms.Term term_step (Term-F.Par ts)) from
rolled_from (Term-F.Sel ts) pos from none = subst (IsFrom pos) (fold-roll-Term terms.Term term_step (Term-F.Sel ts)) from
rolled_from (Term-F.Guard test at t) pos from none = subst (IsFrom pos) (fold-roll-Term terms.Term term_step (Term-F.Guard test at t)) from
rolled_from (Term-F.Frame number inputs results t) pos from none = subst (IsFrom pos) (fold-roll-Term terms.Term term_step (Term-F.Frame number inputs results t)) from
rolled_from (Term-F.Abort t u) pos from none = subst (IsFrom pos) (fold-roll-Term terms.Term term_step (Term-F.Abort t u)) from
rolled_from (Term-F.Idle t u again) pos from none = subst (IsFrom pos) (fold-roll-Term terms.Term term_step (Term-F.Idle t u again)) from
rolled_from (Term-F.Handling t u again) pos from none = subst (IsFrom pos) (fold-roll-Term terms.Term term_step (Term-F.Handling t u again)) from

-- a part with a place is one or the other
pub one_or_other : (t : Term) (pos : Pos) → IsFrom pos (term_view t) → ((s : Step) → t ≡ Leaf s → ⊥) → ((left : ℕ) (at : Pos) → t ≡ Wait left at → ⊥) → ⊥
unfolding IsNone
one_or_other t pos from leaf wait =
    let P : Term → Type 0 = λ u. IsFrom pos (term_view u) → IsNone u → ⊥ in
    subst P (roll-out-Term t) (rolled_from (out-Term t) pos) from (leaf, wait)

-- parts of the rules

pub one_place : (part : terms.Term) (p q : Pos) → IsFrom p part → IsFrom q part → p ≡ q
one_place (terms.leaf s) p q here there = here ∙ sym there
one_place (terms.wait left at) p q here there = here ∙ sym there
one_place terms.done p q here there = absurd here
one_place (terms.sequence t rest) p q here there = absurd here
one_place (terms.parallel ts) p q here there = absurd here
one_place (terms.select ts) p q here there = absurd here
one_place (terms.guarded test at t) p q here there = absurd here
one_place (terms.frame number inputs results t) p q here there = absurd here
one_place (terms.abort t u) p q here there = absurd here
one_place (terms.idle t u again) p q here there = absurd here
one_place (terms.handling t u again) p q here there = absurd here

pub acting_place : (a : Context) (f : ℕ) (part : terms.Term) (kind : Kind) (pos : Pos) → Can a f part kind pos → IsFrom pos part
acting_place a f _ _ _ (internals.skips at) = refl
acting_place a f _ _ _ (internals.evaluates at e) = refl
acting_place a f _ _ _ (internals.evaluates_block at es) = refl
acting_place a f _ _ _ (internals.tests at e ts other) = refl
acting_place a f _ _ _ (internals.repeats at e ts) = refl
acting_place a f _ _ _ (internals.elapses at e lasts) = refl
acting_place a f _ _ _ (internals.expires at) = refl
acting_place a f _ _ _ (internals.calls at method args results) = refl

pub sending_place : (a : Context) (f : ℕ) (part : terms.Term) (pos : Pos) (port : ℕ) (message : List ℕ) (parcel : ParcelView) → Sends a f part pos port message parcel → IsFrom pos part
sending_place a f _ _ _ _ _ (messages.sends at port name args block values s parcel gives packed) = refl

pub receiving_place : (part : terms.Term) (pos : Pos) (port : ℕ) (message : List ℕ) (count : ℕ) → Receives part pos port message count → IsFrom pos part
receiving_place _ _ _ _ _ (messages.receives at port name into condition block) = refl
