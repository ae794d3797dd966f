-- What statements open as but for the numbers of frames, of which each is 0: so no state plays a part.
use Rattle.std.specs.Prelude.{◌≡◌, ℕ, zero, suc, [], Option, Some, None}
use Rattle.pz_bind_rules.specs.pz_syntax.declared.tokens.Pos.{Pos}
use Rattle.pz_bind_rules.specs.pz_syntax.declared.names.Id.{Id}
use Rattle.pz_bind_rules.specs.pz_syntax.Expressions.{none}
use Rattle.pz_bind_rules.specs.pz_syntax.Statements.{bracketed, guarded, parallel, select, abort, interrupt, call, no_statements, then, Branches, no_branches, branch}
use Rattle.pz_bind_rules.specs.pz_value.declared.value.ClassId.{ClassId}
use Rattle.pz_bind_rules.specs.pz_classes_code.declared.slot.Slot.{Slot}
use Rattle.pz_bind_rules.specs.pz_classes_rules.Bodies.{BodyTree, data_body, process_body}
use Rattle.pz_offer.specs.pz_state.States.{StateView}
use Rattle.pz_rules.specs.declared.limits.Edition.{Edition}
use Rattle.pz_rules.specs.declared.limits.Edition.TheVariants.{One, Two}
use Rattle.pz_rules.specs.Terms.{Step, Steps, Term, done, leaf, wait, sequence, frame, idle, handling, Terms, no_terms, and, height}
use Rattle.pz_rules.specs.Terms as terms
use Rattle.pz_rules.specs.Settings.{Home}
use Rattle.pz_rules.specs.Framing.{framed}
use Rattle.pz_rules.specs.Leaving.{is_done}
use Rattle.pz_rules.specs.Opening.{called_body, depth_of, opened_all}
use Rattle.pz_rules.specs.CallLaws.{plain_call, OpensCalls, IsCalled}

-- a term whose frames have no numbers
abbrev mutual
  pub outline : Term → Term
  outline (sequence t rest) = sequence (outline t) rest
  outline (terms.parallel ts) = terms.parallel (outline_each ts)
  outline (terms.select ts) = terms.select (outline_each ts)
  outline (terms.guarded test pos t) = terms.guarded test pos (outline t)
  outline (frame number inputs results t) = frame 0 inputs results (outline t)
  outline (terms.abort t u) = terms.abort (outline t) (outline u)
  outline (idle t u again) = idle (outline t) (outline u) again
  outline (handling t u again) = handling (outline t) (outline u) again
  outline t = t

  pub outline_each : Terms → Terms
  outline_each no_terms = no_terms
  outline_each (and t ts) = and (outline t) (outline_each ts)

-- that of statements, where a plain call becomes what `enter` says
module _ (enter : Step → Term) where
  abbrev mutual
    pub step_outlined : Step → Term
    step_outlined (bracketed pos ts) = steps_outlined ts
    step_outlined (guarded pos test t) = terms.guarded test pos (step_outlined t)
    step_outlined (parallel pos bs) = terms.parallel (branches_outlined bs)
    step_outlined (select pos bs) = terms.select (branches_outlined bs)
    step_outlined (abort pos ts t) = terms.abort (steps_outlined ts) (step_outlined t)
    step_outlined (interrupt pos ts t) = idle (steps_outlined ts) (step_outlined t) t
    step_outlined (call pos method none []) = enter (call pos method none [])
    step_outlined r = leaf r

    pub steps_outlined : Steps → Term
    steps_outlined no_statements = done
    steps_outlined ((then) r no_statements) = step_outlined r
    steps_outlined ((then) r ((then) q rest)) = sequence (step_outlined r) ((then) q rest)

    pub branches_outlined : Branches Slot ClassId ℕ → Terms
    branches_outlined no_branches = no_terms
    branches_outlined (branch ts bs) = and (steps_outlined ts) (branches_outlined bs)

abbrev pub by_body_outlined : Option BodyTree → (Steps → Term) → Step → Term
by_body_outlined (Some (process_body locals body)) opens r = framed 0 0 [] (opens body)
by_body_outlined (Some (data_body locals body)) opens r = leaf r
by_body_outlined None opens r = leaf r

abbrev pub outlined_to : Home → ℕ → Step → Term
outlined_to h zero r = leaf r
outlined_to h (suc depth) (call pos method args results) = by_body_outlined (called_body h method) (steps_outlined (outlined_to h depth)) (call pos method args results)
outlined_to h (suc depth) r = leaf r

abbrev pub outlined_in : Edition → Home → Step → Term
outlined_in One h r = leaf r
outlined_in Two h r = outlined_to h (depth_of h.model) r

abbrev pub entered_outline : Home → Step → Term
entered_outline h = outlined_in h.edition h

abbrev pub outlined : Home → Step → Term
outlined h = step_outlined (entered_outline h)

abbrev pub outlined_all : Home → Steps → Term
outlined_all h = steps_outlined (entered_outline h)

abbrev pub outlined_each : Home → Branches Slot ClassId ℕ → Terms
outlined_each h = branches_outlined (entered_outline h)

-- statements open so in whatever state
abbrev pub OpeningsHaveOutlines : Type 0
OpeningsHaveOutlines = (h : Home) (ts : Steps) (s : StateView) → outline (opened_all h ts s).term ≡ outlined_all h ts

-- a plain call is a frame round the body of its method
abbrev pub OutlinesUnfold : Type 0
OutlinesUnfold = (h : Home) (pos : Pos) (method : Id) (locals : ℕ) (body : Steps) → OpensCalls h → IsCalled h method locals body
    → outlined h (plain_call pos method) ≡ framed 0 0 [] (outlined_all h body)

-- one of what is no method of a process class stands as it is, and so does each in edition One
abbrev pub OutlinesOfNone : Type 0
OutlinesOfNone = (h : Home) (pos : Pos) (method : Id) → ((locals : ℕ) (body : Steps) → called_body h method ≡ Some (process_body locals body) → ⊥)
    → outlined h (plain_call pos method) ≡ leaf (plain_call pos method)

abbrev pub OutlinesInOne : Type 0
OutlinesInOne = (h : Home) (pos : Pos) (method : Id) → h.edition ≡ One → outlined h (plain_call pos method) ≡ leaf (plain_call pos method)

-- an outline is as high as the term, and done where that is
abbrev pub OutlinesAreAsHigh : Type 0
OutlinesAreAsHigh = (t : Term) → height (outline t) ≡ height t

abbrev pub OutlinesAreAsDone : Type 0
OutlinesAreAsDone = (t : Term) → is_done (outline t) ≡ is_done t
