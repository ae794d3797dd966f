-- At which line a trace is refused, and what any replay of it prints.
use Rattle.std.proofs.Common.{◌≡◌, ◌≤◌, ◌<◌, ◌⊎◌, inl, inr, refl, sym, subst, ap, ◌∙◌, ℕ, zero, suc, List, [], ◌∷◌, ◌++◌, length, take, drop, arith, append_assoc, take-append-drop, length-append, length-take}
use Rattle.std.specs.List.{concat}
use Rattle.std.proofs.lemmas.List.{append-nil}
use Rattle.pz_rules.specs.pz_syntax.ModelForm.{Each}
use Rattle.pz_rules.specs.Settings.{Setting}
use Rattle.pz_rules.specs.Configurations.{Config}
use Rattle.pz_rules.specs.Starting.{IsStart}
use Rattle.pz_rules.specs.Runs.{Standing}
use Rattle.pz_trace.specs.declared.ending.Ending.{Ending}
use Rattle.pz_trace.specs.Laws.{IsLine}
use Rattle.pz_trace.specs.TraceText.{IsTrace}
use Rattle.pz_term_simulator.specs.Simulations.{Simulation}
use Rattle.pz_run_replaying.specs.declared.replayed.Replayed.{Replayed}
use Rattle.pz_run_replaying.specs.Refusals.{Agrees, IsRefusedAt}
use Rattle.pz_run_replaying.specs.Stages.{Stage, unbegun, concluded, LeadsTo}
use Rattle.pz_run_replaying.specs.Replays.{Replays, accepts, refuses, TellsLines, refusal_text}
use Rattle.pz_run_replaying.specs.devices.Known.{Known}
use Rattle.pz_run_replaying.specs.devices.Taking.{Follows, stays, onward, IsKept, Differs}
use Rattle.pz_run_replaying.specs.devices.Progress.{Progress}
use Rattle.pz_run_replaying.proofs.Cuts.{each_take, each_behind, concat_both, goes_on, has_lines}
use Rattle.pz_run_replaying.proofs.Roads.{splits, one_road, leads_followed, lines_told, trace_led, begun}

-- of two numbers
pub either_less : (a b : ℕ) → (a ≤ b) ⊎ (b < a)
either_less a b = less_or a b
  where
    less_or : (x y : ℕ) → (x ≤ y) ⊎ (y < x)
    less_or zero y = inl (omega arith)
    less_or (suc x) zero = inr (omega arith)
    less_or (suc x) (suc y) = by (less_or x y)
      where
        by : (x ≤ y) ⊎ (y < x) → (suc x ≤ suc y) ⊎ (suc y < suc x)
        by (inl le) = inl (omega (arith, le))
        by (inr lt) = inr (omega (arith, lt))

pub no_more : (more : List (List ℕ)) → length more ≡ 0 → more ≡ []
no_more [] none = refl
no_more (x ∷ more) none = absurd (omega (arith, none))

-- a trace agrees with some run up to any of the lines that lead somewhere
pub agrees_led : (known : Known) (setting : Setting) (trace : List ℕ) (lines : List (List ℕ)) (stage : Stage) (rest : List ℕ) (start : Config) → IsStart setting start → IsKept setting stage → LeadsTo setting lines stage
    → Each IsLine lines → trace ≡ concat lines ++ rest → (count : ℕ) → count ≤ length lines → Agrees setting trace count
agrees_led known setting trace lines stage rest start is_start kept leads all is_trace count within =
    let run = begun known setting start lines stage is_start kept leads in
    let front = take count lines in
    let behind = drop count lines in
    let both : front ++ behind ≡ lines = take-append-drop count lines in
    let are : Each IsLine front = each_take count lines all in
    record {
      lines = front;
      counted = length-take count lines ∙ omega (arith, within);
      of_trace = record {
        are_lines = are;
        rest = concat behind ++ rest;
        is_text = is_trace ∙ ap (λ (ls : List (List ℕ)). concat ls ++ rest) (sym both) ∙ concat_both front behind rest;
      };
      text = run.text;
      is_run = run.is_run;
      of_run = record {
        are_lines = are;
        rest = concat (behind ++ run.more) ++ [];
        is_text = run.is_text ∙ sym (append-nil (concat (lines ++ run.more)))
            ∙ ap (λ (ls : List (List ℕ)). concat (ls ++ run.more) ++ []) (sym both)
            ∙ ap (λ (ls : List (List ℕ)). concat ls ++ []) (append_assoc front behind run.more) ∙ concat_both front (behind ++ run.more) [];
      };
    }

module _ (known : Known) (setting : Setting) (tells : TellsLines setting) (trace : List ℕ) (lines : List (List ℕ)) (stage : Stage) (rest : List ℕ) (x : Progress setting trace lines stage rest) where
  all_lines : Each IsLine lines
  all_lines = lines_told known setting tells lines stage x.leads

  pub agrees_within : (count : ℕ) → count ≤ length lines → Agrees setting trace count
  agrees_within count within = agrees_led known setting trace lines stage rest x.start x.is_start x.kept x.leads all_lines x.is_trace count within

  -- where lines are told that go on from these, they go on from this stage
  goes_from : (sound : IsKept setting unbegun) (all more : List (List ℕ)) (end : Stage) → all ≡ lines ++ more → LeadsTo setting all end → Follows setting stage more end
  goes_from sound all more end is leads =
      let way = splits setting unbegun end lines more (subst (λ (ls : List (List ℕ)). Follows setting unbegun ls end) is (leads_followed setting all end leads)) in
      let same : stage ≡ way.mid = one_road known setting unbegun stage way.mid lines sound x.path way.before in
      subst (λ (s : Stage). Follows setting s more end) (sym same) way.after

  module _ (sound : IsKept setting unbegun) (other : Differs setting stage rest) where
    -- nothing follows
    never : (more : List (List ℕ)) (end : Stage) (left : List ℕ) → 0 < length more → Each IsLine more → Follows setting stage more end → rest ≡ concat more ++ left → ⊥
    never [] end left some are follows e = omega (arith, some)
    never (line ∷ more) end left some are (onward _ t _ _ _ takes follows) e = other.untaken line (concat more ++ left) t are.0 (e ∙ append_assoc line (concat more) left) takes

    no_end : (more : List (List ℕ)) (c : Config) (standing : Standing) (e : Ending) → Each IsLine more → Follows setting stage more (concluded c standing e) → rest ≡ concat more ++ [] → ⊥
    no_end [] c standing e are follows is = other.unfinished c standing e (at_once stage (concluded c standing e) follows) is
      where
        at_once : (s t : Stage) → Follows setting s [] t → s ≡ t
        at_once _ _ (stays s) = refl
    no_end (line ∷ more) c standing e are follows is = never (line ∷ more) (concluded c standing e) [] (omega arith) are follows is

    no_run : IsTrace setting trace → ⊥
    no_run run =
        let led = trace_led setting trace run in
        let all = lines_told known setting tells led.lines (concluded led.c led.standing led.ending) led.leads in
        let text : concat lines ++ rest ≡ concat led.lines ++ [] = sym x.is_trace ∙ led.is_text ∙ sym (append-nil (concat led.lines)) in
        let enough = has_lines known.one_line lines led.lines rest all_lines all (sym led.is_text ∙ x.is_trace) in
        let on = goes_on known.one_line lines led.lines rest [] all_lines all text enough in
        no_end on.more led.c led.standing led.ending (each_behind lines on.more (subst (Each IsLine) on.is_more all)) (goes_from sound led.lines on.more (concluded led.c led.standing led.ending) on.is_more led.leads) on.is_rest

    differs : Agrees setting trace (suc (length lines)) → ⊥
    differs agrees =
        let led = trace_led setting agrees.text agrees.is_run in
        let all = lines_told known setting tells led.lines (concluded led.c led.standing led.ending) led.leads in
        let on = goes_on known.one_line lines agrees.lines rest agrees.of_trace.rest all_lines agrees.of_trace.are_lines (sym x.is_trace ∙ agrees.of_trace.is_text) (omega (arith, agrees.counted)) in
        let text : concat agrees.lines ++ agrees.of_run.rest ≡ concat led.lines ++ [] = sym agrees.of_run.is_text ∙ led.is_text ∙ sym (append-nil (concat led.lines)) in
        let enough = has_lines known.one_line agrees.lines led.lines agrees.of_run.rest agrees.of_run.are_lines all (sym led.is_text ∙ agrees.of_run.is_text) in
        let run = goes_on known.one_line agrees.lines led.lines agrees.of_run.rest [] agrees.of_run.are_lines all text enough in
        let whole : led.lines ≡ lines ++ (on.more ++ run.more) = run.is_more ∙ ap (λ (ls : List (List ℕ)). ls ++ run.more) on.is_more ∙ append_assoc lines on.more run.more in
        let way = splits setting stage (concluded led.c led.standing led.ending) on.more run.more
        (goes_from sound led.lines (on.more ++ run.more) (concluded led.c led.standing led.ending) whole led.leads) in
        let some : 0 < length on.more = omega (arith, agrees.counted, ap (λ (ls : List (List ℕ)). length ls) on.is_more, length-append lines on.more) in
        never on.more way.mid agrees.of_trace.rest some (each_behind lines on.more (subst (Each IsLine) on.is_more agrees.of_trace.are_lines)) way.before on.is_rest

    -- so it is refused there
    pub refused_there : IsRefusedAt setting trace (suc (length lines))
    refused_there = record { no_run = no_run; differs = differs; first = λ count less. agrees_within count (omega (arith, less)) }

  -- What any replay prints begins with these lines

  pub record HasFront (text : List ℕ) : Type 0 where
    pub more : List ℕ
    pub is_text : text ≡ concat lines ++ more

  behind_more : (others more : List (List ℕ)) (text : List ℕ) → others ≡ lines ++ more → HasFront (concat others ++ text)
  behind_more others more text is = record { more = concat more ++ text; is_text = ap (λ (ls : List (List ℕ)). concat ls ++ text) is ∙ concat_both lines more text }

  front_refused : (others : List (List ℕ)) (left : List ℕ) (text : List ℕ) → Each IsLine others → trace ≡ concat others ++ left → IsRefusedAt setting trace (suc (length others)) → HasFront (concat others ++ text)
  front_refused others left text are is refused = by (either_less (length lines) (length others))
    where
      by : (length lines ≤ length others) ⊎ (length others < length lines) → HasFront (concat others ++ text)
      by (inl within) =
          let on = goes_on known.one_line lines others rest left all_lines are (sym x.is_trace ∙ is) within in
          behind_more others on.more text on.is_more
      by (inr past) = absurd (refused.differs (agrees_within (suc (length others)) (omega (arith, past))))

  pub any_front : (text : List ℕ) (replayed : Replayed) (last : Simulation) → Replays setting trace text replayed last → HasFront text
  any_front _ _ _ (accepts run) = record { more = rest; is_text = x.is_trace }
  any_front _ _ _ (refuses others left s expected last refused are is leads expects at) = front_refused others left (refusal_text (suc (length others)) expected) are is refused
