-- A text is the trace of runs with one ending alone.
use Rattle.std.proofs.Common.{◌≡◌, ◌∙◌, ℕ, List, [], ◌∷◌, ◌++◌, length, if◌then◌else◌, refl, sym, ap, arith, append_assoc, length-append}
use Rattle.std.specs.Prelude.{nat_eq}
use Rattle.std.specs.Fmt.{decimal}
use Rattle.std.proofs.lemmas.List.{append-nil}
use Rattle.pz_bind.specs.pz_syntax.Classes.{ModelTree}
use Rattle.pz_bind.specs.pz_syntax.ModelForm.{Each}
use Rattle.pz_trace.specs.pz_offer.declared.trouble.Trouble.TheVariants.{Fault, Spent, High}
use Rattle.pz_trace.specs.pz_rules.Runs.{Event}
use Rattle.pz_trace.specs.declared.ending.Ending.{Ending}
use Rattle.pz_trace.specs.declared.ending.Ending.TheVariants as ending
use Rattle.pz_trace.specs.Lines.{newline, end_words, end_line}
use Rattle.pz_trace.specs.Forms.{form_of}
use Rattle.pz_trace.specs.TraceText.{trace_header, event_line, events_text, run_ending}
use Rattle.pz_trace.specs.Laws.{IsLine, HeadersAreLines, EndLinesAreLines, OneFirstLine}
use Rattle.pz_trace.proofs.Digits.{cut_once, decimal_lacks}
use Rattle.pz_run_output.specs.declared.status.Status.{Status}
use Rattle.pz_run_output.specs.declared.status.Status.TheVariants.{Done, Deadlock, ModelFault}
use Rattle.pz_run_output.specs.Status.{status_of}
use Rattle.pz_run_output.specs.devices.Replaying.{OneEnding}

-- ---- the last line of a text

line_is_some : (l : List ℕ) → IsLine l → length l ≡ 0 → ⊥
line_is_some l line none = omega (arith, none, ap (λ (t : List ℕ). length t) line.ends, length-append line.front newline)

nothing_left : {X : Type 0} (front l : List ℕ) → IsLine l → [] ≡ front ++ l → X
nothing_left front l line e = absurd (line_is_some l line (omega (arith, ap (λ (t : List ℕ). length t) e, length-append front l)))

module _ (first : OneFirstLine) (m : ModelTree) where
  abbrev AreLines : List Event → Type 0
  AreLines events = Each (λ e. IsLine (event_line m e)) events

  same_last : (events more : List Event) (l k : List ℕ) → AreLines events → AreLines more → IsLine l → IsLine k → events_text m events ++ l ≡ events_text m more ++ k → l ≡ k
  same_last [] [] l k are others line other e = e
  same_last [] (x ∷ more) l k are others line other e =
      let same = first l (event_line m x) [] (events_text m more ++ k) line others.0 (append-nil l ∙ e ∙ append_assoc (event_line m x) (events_text m more) k) in
      nothing_left (events_text m more) k other same.same_rest
  same_last (x ∷ events) [] l k are others line other e =
      let same = first k (event_line m x) [] (events_text m events ++ l) other are.0 (append-nil k ∙ sym e ∙ append_assoc (event_line m x) (events_text m events) l) in
      nothing_left (events_text m events) l line same.same_rest
  same_last (x ∷ events) (y ∷ more) l k are others line other e =
      let same = first (event_line m x) (event_line m y) (events_text m events ++ l) (events_text m more ++ k) are.0 others.0
      (sym (append_assoc (event_line m x) (events_text m events) l) ∙ e ∙ append_assoc (event_line m y) (events_text m more) k) in
      same_last events more l k are.1 others.1 line other same.same_rest

  -- ---- what it says

  -- by the first two letters: `en`, `de`, `st`, and others
  abbrev status_by : List ℕ → Status
  status_by [] = ModelFault
  status_by (x ∷ []) = ModelFault
  status_by (x ∷ y ∷ rest) = if nat_eq x 101 then Done else if nat_eq x 100 then Deadlock else if nat_eq y 116 then Done else ModelFault

  status_is : (e : Ending) → status_of (run_ending e) ≡ status_by (end_words m e ++ newline)
  status_is ending.End = refl
  status_is ending.Deadlock = refl
  status_is ending.Stop = refl
  status_is (ending.Trouble (Fault kind process at)) = refl
  status_is (ending.Trouble (Spent process at)) = refl
  status_is (ending.Trouble (High process at)) = refl

  same_status : (clock late : ℕ) (e d : Ending) → end_line m clock e ≡ end_line m late d → status_of (run_ending e) ≡ status_of (run_ending d)
  same_status clock late e d same =
      let words = cut_once 32 (decimal clock) (end_words m e ++ newline) (decimal late) (end_words m d ++ newline) (decimal_lacks 32 clock (omega arith)) (decimal_lacks 32 late (omega arith)) same in
      status_is e ∙ ap status_by words.same_rest ∙ sym (status_is d)

pub one_ending : OneFirstLine → HeadersAreLines → EndLinesAreLines → OneEnding
one_ending first head_lines end_lines setting trace tells x y =
    let m = setting.model in
    let header = trace_header setting in
    let head_line = head_lines (form_of setting.limits) in
    let behind = (first header header (events_text m x.events ++ end_line m x.last.clock x.ending) (events_text m y.events ++ end_line m y.last.clock y.ending) head_line head_line
    (sym x.is_text ∙ y.is_text)).same_rest in
    same_status first m x.last.clock y.last.clock x.ending y.ending
    (same_last first m x.events y.events (end_line m x.last.clock x.ending) (end_line m y.last.clock y.ending)
    (tells.events x.start x.last x.events x.standing x.is_start x.reaches) (tells.events y.start y.last y.events y.standing y.is_start y.reaches)
    (end_lines m x.last.clock x.ending tells.names) (end_lines m y.last.clock y.ending tells.names) behind)
