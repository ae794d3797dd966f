-- Each trace is accepted or refused.
use Rattle.std.proofs.Common.{◌≡◌, ◌≤◌, ◌<◌, ◌⊎◌, inl, inr, refl, sym, subst, ap, ◌∙◌, ℕ, suc, Bool, List, [], ◌∷◌, ◌++◌, length, Option, Some, None, arith, append_assoc, length-append}
use Rattle.std.specs.Prelude.{nat_eq, ◌||◌}
use Rattle.std.specs.List.{concat, list_any}
use Rattle.std.proofs.lemmas.List.{append-nil}
use Rattle.std.proofs.lemmas.Bool.{ne_eqb}
use Rattle.pz_rules.specs.pz_syntax.ModelForm.{Each}
use Rattle.pz_rules.specs.pz_offer.declared.trouble.Trouble.{Trouble}
use Rattle.pz_rules.specs.declared.moment.Moment.{Moment}
use Rattle.pz_rules.specs.declared.moment.Moment.TheVariants.{Actions, Time, Finished, Deadlock, Faulty, Stopped, Broken}
use Rattle.pz_rules.specs.Settings.{Setting}
use Rattle.pz_rules.specs.Configurations.{Config}
use Rattle.pz_rules.specs.Starting.{IsStart}
use Rattle.pz_rules.specs.Moments.{IsMoment}
use Rattle.pz_rules.specs.Runs as runs
use Rattle.pz_rules.specs.Runs.{Standing, whole, stopped, Ends}
use Rattle.pz_trace.specs.declared.ending.Ending.{Ending}
use Rattle.pz_trace.specs.declared.ending.Ending.TheVariants as ending
use Rattle.pz_trace.specs.declared.headings.Heading.{Heading}
use Rattle.pz_trace.specs.declared.headings.Heading.TheVariants.{Step, Other}
use Rattle.pz_trace.specs.Headings.{IsHeading}
use Rattle.pz_trace.specs.Laws.{Unbroken, IsLine, OneFirstLine}
use Rattle.pz_trace.specs.Lines.{time_line, action_line, end_line}
use Rattle.pz_trace.specs.TraceText.{trace_header, run_ending, IsTrace}
use Rattle.pz_term_simulator.specs.Simulations.{Simulation, stands, starts}
use Rattle.pz_run_replaying.specs.declared.replayed.Replayed.{Replayed}
use Rattle.pz_run_replaying.specs.declared.replayed.Replayed.TheVariants.{Ended, Refused}
use Rattle.pz_run_replaying.specs.Refusals.{Agrees, IsRefusedAt}
use Rattle.pz_run_replaying.specs.Stages.{Stage, unbegun, underway, concluded, LeadsTo, nothing_told, IsAt}
use Rattle.pz_run_replaying.specs.Expected.{NamesOffer, Expects, the_header, the_offer, no_offer, the_passing, the_end, nothing_more}
use Rattle.pz_run_replaying.specs.Replays.{Replays, accepts, refuses, TellsLines, refusal_text}
use Rattle.pz_run_replaying.specs.devices.Known.{Known}
use Rattle.pz_run_replaying.specs.devices.Taking.{Follows, stays, onward, IsKept}
use Rattle.pz_run_replaying.proofs.Cuts.{line_some, each_behind, concat_both, goes_on, has_lines}
use Rattle.pz_run_replaying.proofs.Moments.{may_end, never_broken}
use Rattle.pz_run_replaying.proofs.Takings.{kept_taken}
use Rattle.pz_run_replaying.proofs.Simulated.{offer_there, choice_of}
use Rattle.pz_run_replaying.proofs.Roads.{splits, leads_on, leads_followed, lines_told, trace_led, led_trace}
use Rattle.pz_run_replaying.proofs.Refused.{either_less, agrees_led}
use Rattle.pz_run_replaying.proofs.Begins.{no_line, none_unbroken, named, none_past, none_other}
use Rattle.pz_run_replaying.proofs.Followings.{Decided, same_number, same_text, Leads, can_follow}

-- A text is cut into its lines, and what stands behind the last LF

pub record Cut (text : List ℕ) : Type 0 where
  pub lines : List (List ℕ)
  pub are_lines : Each IsLine lines
  pub residue : List ℕ
  pub unbroken : Unbroken residue
  pub is_text : text ≡ concat lines ++ residue

unbroken_more : (x : ℕ) (text : List ℕ) → (x ≡ 10 → ⊥) → Unbroken text → Unbroken (x ∷ text)
unbroken_more x text other unbroken = ap (λ (b : Bool). b || list_any (nat_eq 10) text) (ne_eqb 10 x (λ same. other (sym same))) ∙ unbroken

longer_line : (x : ℕ) (line : List ℕ) → (x ≡ 10 → ⊥) → IsLine line → IsLine (x ∷ line)
longer_line x line other is = record { front = x ∷ is.front; unbroken = unbroken_more x is.front other is.unbroken; ends = ap (λ (l : List ℕ). x ∷ l) is.ends }

lengthen : (x : ℕ) (text : List ℕ) (lines : List (List ℕ)) (residue : List ℕ) → (x ≡ 10 → ⊥) → Each IsLine lines → Unbroken residue → text ≡ concat lines ++ residue → Cut (x ∷ text)
lengthen x text [] residue other are unbroken is = record { lines = []; are_lines = tt; residue = x ∷ residue; unbroken = unbroken_more x residue other unbroken; is_text = ap (λ (l : List ℕ). x ∷ l) is }
lengthen x text (line ∷ lines) residue other are unbroken is =
    record { lines = (x ∷ line) ∷ lines; are_lines = (longer_line x line other are.0, are.1); residue = residue; unbroken = unbroken; is_text = ap (λ (l : List ℕ). x ∷ l) is }

cut_by : (x : ℕ) (text : List ℕ) → Decided (x ≡ 10) → Cut text → Cut (x ∷ text)
cut_by x text (inl feed) r = record {
  lines = (10 ∷ []) ∷ r.lines;
  are_lines = (record { front = []; unbroken = refl; ends = refl }, r.are_lines);
  residue = r.residue;
  unbroken = r.unbroken;
  is_text = ap (λ (n : ℕ). n ∷ text) feed ∙ ap (λ (l : List ℕ). 10 ∷ l) r.is_text;
}
cut_by x text (inr other) r = lengthen x text r.lines r.residue other r.are_lines r.unbroken r.is_text

pub cut : (text : List ℕ) → Cut text
cut [] = record { lines = []; are_lines = tt; residue = []; unbroken = refl; is_text = refl }
cut (x ∷ text) = cut_by x text (same_number x 10) (cut text)

-- in one way
record AllOf (lines all : List (List ℕ)) (residue : List ℕ) : Type 0 where
  same : all ≡ lines
  none : residue ≡ []

cut_alone : OneFirstLine → (lines all : List (List ℕ)) (residue : List ℕ) → Each IsLine lines → Each IsLine all → Unbroken residue → concat all ≡ concat lines ++ residue → AllOf lines all residue
cut_alone one [] [] residue are others unbroken e = record { same = refl; none = sym e }
cut_alone one [] (y ∷ all) residue are others unbroken e = absurd (no_line residue y (concat all) unbroken others.0 (sym e))
cut_alone one (x ∷ lines) [] residue are others unbroken e =
    absurd (omega (arith, line_some x are.0, ap (λ (l : List ℕ). length l) e, length-append (x ++ concat lines) residue, length-append x (concat lines)))
cut_alone one (x ∷ lines) (y ∷ all) residue are others unbroken e =
    let first = one x y (concat lines ++ residue) (concat all) are.0 others.0 (sym (append_assoc x (concat lines) residue) ∙ sym e) in
    let more = cut_alone one lines all residue are.1 others.1 unbroken (sym first.same_rest) in
    record { same = ap (λ (l : List ℕ). l ∷ all) (sym first.same_line) ∙ ap (λ (ls : List (List ℕ)). x ∷ ls) more.same; none = more.none }

-- What the rules have in the place of what is left

record FirstLine (rest : List ℕ) : Type 0 where
  line : List ℕ
  left : List ℕ
  is_line : IsLine line
  is : rest ≡ line ++ left

first_of : (rest : List ℕ) (lines : List (List ℕ)) (residue : List ℕ) → Each IsLine lines → Unbroken residue → rest ≡ concat lines ++ residue → FirstLine rest ⊎ Unbroken rest
first_of rest [] residue are unbroken is = inr (subst Unbroken (sym is) unbroken)
first_of rest (line ∷ lines) residue are unbroken is = inl (record { line = line; left = concat lines ++ residue; is_line = are.0; is = is ∙ append_assoc line (concat lines) residue })

record Names (rest : List ℕ) (n : ℕ) : Type 0 where
  k : ℕ
  within : k < n
  named : NamesOffer rest k

abbrev NamesNone : List ℕ → ℕ → Type 0
NamesNone rest n = (k : ℕ) → k < n → NamesOffer rest k → ⊥

end_no_stop : ending.End ≡ ending.Stop → ⊥
end_no_stop h = cc

deadlock_no_stop : ending.Deadlock ≡ ending.Stop → ⊥
deadlock_no_stop h = cc

trouble_no_stop : (t : Trouble) → ending.Trouble t ≡ ending.Stop → ⊥
trouble_no_stop t h = cc

module _ (known : Known) where
  less : (k n : ℕ) → k ≤ n → (k ≡ n → ⊥) → k < n
  less k n within other = omega (arith, within, other)

  at_most : (rest : List ℕ) (k n : ℕ) → NamesOffer rest k → k ≤ n → Decided (k ≡ n) → Names rest n ⊎ NamesNone rest n
  at_most rest k n x within (inl same) = inr (none_past known rest n k x (omega (arith, same)))
  at_most rest k n x within (inr other) = inl (record { k = k; within = less k n within other; named = x })

  by_number : (rest : List ℕ) (k n : ℕ) → NamesOffer rest k → (k ≤ n) ⊎ (n < k) → Names rest n ⊎ NamesNone rest n
  by_number rest k n x (inl within) = at_most rest k n x within (same_number k n)
  by_number rest k n x (inr past) = inr (none_past known rest n k x (omega (arith, past)))

  by_heading : (rest line left : List ℕ) (n : ℕ) (h : Heading) → IsLine line → rest ≡ line ++ left → IsHeading line h → Names rest n ⊎ NamesNone rest n
  by_heading rest line left n (Step clock m k) is_line is heading = by_number rest k n (named rest line left clock m k (Step clock m k) is_line is heading refl) (either_less k n)
  by_heading rest line left n Other is_line is heading = inr (λ k within x. none_other known rest line left Other is_line is heading refl k x)

  by_line : (rest : List ℕ) (n : ℕ) → FirstLine rest ⊎ Unbroken rest → Names rest n ⊎ NamesNone rest n
  by_line rest n (inl first) = let h = known.some_heading first.line in by_heading rest first.line first.left n h.0 first.is_line first.is h.1
  by_line rest n (inr unbroken) = inr (λ k within x. none_unbroken rest unbroken k x)

  names_decided : (rest : List ℕ) (n : ℕ) → Names rest n ⊎ NamesNone rest n
  names_decided rest n = let x = cut rest in by_line rest n (first_of rest x.lines x.residue x.are_lines x.unbroken x.is_text)

  module _ (setting : Setting) (rest : List ℕ) where
    record SomeExpected (s : Stage) : Type 0 where
      pub expected : Option (List ℕ)
      pub expects : Expects setting rest s expected

    expects_offer : (c : Config) (n : ℕ) → IsMoment setting c (Actions n) → Names rest n ⊎ NamesNone rest n → SomeExpected (underway c whole)
    expects_offer c n is (inl x) =
        let offer = offer_there known (stands setting c whole) n x.k is x.within in
        record { expected = Some (action_line setting.model c.clock n x.k offer.0); expects = the_offer c n x.k offer.0 is x.named (choice_of known setting c n x.k offer.0 is offer.1) }
    expects_offer c n is (inr none) = record { expected = None; expects = no_offer c n is none }

    expects_end : (c : Config) (standing : Standing) (e : Ending) → Ends setting c standing (run_ending e) → (e ≡ ending.Stop → ⊥) → SomeExpected (underway c standing)
    expects_end c standing e so no_stop = record { expected = Some (end_line setting.model c.clock e); expects = the_end c standing e so no_stop }

    expects_at : (c : Config) (m : Moment) → IsMoment setting c m → SomeExpected (underway c whole)
    expects_at c (Actions n) is = expects_offer c n is (names_decided rest n)
    expects_at c (Time d) is = record { expected = Some (time_line c.clock d); expects = the_passing c d is }
    expects_at c Finished is = expects_end c whole ending.End (may_end setting c whole Finished ending.End is refl) end_no_stop
    expects_at c Deadlock is = expects_end c whole ending.Deadlock (may_end setting c whole Deadlock ending.Deadlock is refl) deadlock_no_stop
    expects_at c (Faulty t) is = expects_end c whole (ending.Trouble t) (may_end setting c whole (Faulty t) (ending.Trouble t) is refl) (trouble_no_stop t)
    expects_at c (Stopped t) is = expects_end c whole (ending.Trouble t) (may_end setting c whole (Stopped t) (ending.Trouble t) is refl) (trouble_no_stop t)
    expects_at c Broken is = absurd (never_broken setting c Broken refl is.applies)

    some_expected : (s : Stage) → IsKept setting s → SomeExpected s
    some_expected unbegun kept = record { expected = Some (trace_header setting); expects = the_header }
    some_expected (underway c whole) ready = let m = known.some_moment setting c ready.wires in expects_at c m.0 m.1
    some_expected (underway c (stopped t)) ready = expects_end c (stopped t) (ending.Trouble t) (runs.stops c t) (trouble_no_stop t)
    some_expected (concluded c standing e) ready = record { expected = None; expects = nothing_more c standing e }

-- What a trace comes to

abbrev IsEnd : Stage → Type 0
IsEnd unbegun = ⊥
IsEnd (underway c standing) = ⊥
IsEnd (concluded c standing e) = Unit {0}

end_decided : (s : Stage) → Decided (IsEnd s)
end_decided unbegun = inr (λ x. x)
end_decided (underway c standing) = inr (λ x. x)
end_decided (concluded c standing e) = inl tt

abbrev Anywhere : Stage → Type 0
Anywhere s = Unit {0}

anywhere_decided : (s : Stage) → Decided (Anywhere s)
anywhere_decided s = inl tt

follows_led : (setting : Setting) (lines : List (List ℕ)) (s t : Stage) (more : List (List ℕ)) → LeadsTo setting lines s → Follows setting s more t → LeadsTo setting (lines ++ more) t
follows_led setting lines _ _ _ leads (stays s) = subst (λ (ls : List (List ℕ)). LeadsTo setting ls s) (sym (append-nil lines)) leads
follows_led setting lines s t _ leads (onward _ u _ line more takes follows) =
    subst (λ (ls : List (List ℕ)). LeadsTo setting ls t) (append_assoc lines (line ∷ []) more) (follows_led setting (lines ++ line ∷ []) u t more (leads_on setting lines s u line leads takes) follows)

kept_followed : Known → (setting : Setting) (s t : Stage) (lines : List (List ℕ)) → IsKept setting s → Follows setting s lines t → IsKept setting t
kept_followed known setting _ _ _ kept (stays s) = kept
kept_followed known setting s t _ kept (onward _ u _ line lines takes follows) = kept_followed known setting u t lines (kept_taken known setting s u line kept takes) follows

first_is : {x y : List ℕ} {xs ys : List (List ℕ)} → x ∷ xs ≡ y ∷ ys → x ≡ y
first_is h = cc

none_first : {x : List ℕ} {xs : List (List ℕ)} → [] ≡ x ∷ xs → ⊥
none_first h = cc

pub record SomeReplay (setting : Setting) (trace : List ℕ) : Type 0 where
  pub text : List ℕ
  pub outcome : Replayed
  pub end : Simulation
  pub replays : Replays setting trace text outcome end

module _ (known : Known) (setting : Setting) (tells : TellsLines setting) (start : Config) (is_start : IsStart setting start) (sound : IsKept setting unbegun) (trace : List ℕ) where
  cutting : Cut trace
  cutting = cut trace

  -- the lines of a run are those of its text
  run_lines : (run : IsTrace setting trace) → AllOf cutting.lines (trace_led setting trace run).lines cutting.residue
  run_lines run =
      let led = trace_led setting trace run in
      cut_alone known.one_line cutting.lines led.lines cutting.residue cutting.are_lines (lines_told known setting tells led.lines (concluded led.c led.standing led.ending) led.leads) cutting.unbroken (sym led.is_text ∙ cutting.is_text)

  run_followed : (run : IsTrace setting trace) → Leads setting IsEnd unbegun cutting.lines
  run_followed run =
      let led = trace_led setting trace run in
      let end = concluded led.c led.standing led.ending in
      record { to = end; follows = subst (λ (ls : List (List ℕ)). Follows setting unbegun ls end) (run_lines run).same (leads_followed setting led.lines end led.leads); is = tt }

  run_of : (to : Stage) → Follows setting unbegun cutting.lines to → IsEnd to → cutting.residue ≡ [] → IsTrace setting trace
  run_of unbegun follows is none = absurd is
  run_of (underway c standing) follows is none = absurd is
  run_of (concluded c standing e) follows is none =
      led_trace setting trace cutting.lines c standing e (follows_led setting [] unbegun (concluded c standing e) cutting.lines nothing_told follows)
      (cutting.is_text ∙ ap (λ (l : List ℕ). concat cutting.lines ++ l) none ∙ append-nil (concat cutting.lines))

  run_by_lines : cutting.residue ≡ [] → Decided (Leads setting IsEnd unbegun cutting.lines) → Decided (IsTrace setting trace)
  run_by_lines none (inl x) = inl (run_of x.to x.follows x.is none)
  run_by_lines none (inr never) = inr (λ run. never (run_followed run))

  run_by_residue : Decided (cutting.residue ≡ []) → Decided (IsTrace setting trace)
  run_by_residue (inl none) = run_by_lines none (can_follow known setting IsEnd end_decided start is_start cutting.lines unbegun sound)
  run_by_residue (inr some) = inr (λ run. some (run_lines run).none)

  run_decided : Decided (IsTrace setting trace)
  run_decided = run_by_residue (same_text cutting.residue [])

  -- the most lines that lead somewhere

  record Far (all : List (List ℕ)) : Type 0 where
    taken : List (List ℕ)
    left : List (List ℕ)
    is : all ≡ taken ++ left
    leads : Leads setting Anywhere unbegun taken
    none : (line : List ℕ) (more : List (List ℕ)) → left ≡ line ∷ more → Leads setting Anywhere unbegun (taken ++ line ∷ []) → ⊥

  far_by : (before : List (List ℕ)) (line : List ℕ) (after : List (List ℕ)) → Leads setting Anywhere unbegun before → (Leads setting Anywhere unbegun (before ++ line ∷ []) → Far ((before ++ line ∷ []) ++ after))
      → Decided (Leads setting Anywhere unbegun (before ++ line ∷ [])) → Far (before ++ line ∷ after)
  far_by before line after leads go (inl more) = subst Far (append_assoc before (line ∷ []) after) (go more)
  far_by before line after leads go (inr never) = record {
    taken = before;
    left = line ∷ after;
    is = refl;
    leads = leads;
    none = λ other more same x. never (subst (λ (l : List ℕ). Leads setting Anywhere unbegun (before ++ l ∷ [])) (sym (first_is same)) x);
  }

  furthest : (before after : List (List ℕ)) → Leads setting Anywhere unbegun before → Far (before ++ after)
  furthest before [] leads = record { taken = before; left = []; is = refl; leads = leads; none = λ line more same x. none_first same }
  furthest before (line ∷ after) leads =
      far_by before line after leads (λ more. furthest (before ++ line ∷ []) after more) (can_follow known setting Anywhere anywhere_decided start is_start (before ++ line ∷ []) unbegun sound)

  far : Far cutting.lines
  far = furthest [] cutting.lines (record { to = unbegun; follows = stays unbegun; is = tt })

  rest : List ℕ
  rest = concat far.left ++ cutting.residue

  is_trace : trace ≡ concat far.taken ++ rest
  unfolding rest
  is_trace = cutting.is_text ∙ ap (λ (ls : List (List ℕ)). concat ls ++ cutting.residue) far.is ∙ concat_both far.taken far.left cutting.residue

  leads : LeadsTo setting far.taken far.leads.to
  leads = follows_led setting [] unbegun far.leads.to far.taken nothing_told far.leads.follows

  kept : IsKept setting far.leads.to
  kept = kept_followed known setting unbegun far.leads.to far.taken sound far.leads.follows

  all_lines : Each IsLine far.taken
  all_lines = lines_told known setting tells far.taken far.leads.to leads

  next_line : (ls : List (List ℕ)) → far.left ≡ ls → (l left : List ℕ) → IsLine l → concat ls ++ cutting.residue ≡ l ++ left → (t : Stage) → Follows setting unbegun (far.taken ++ l ∷ []) t → ⊥
  next_line [] e l left is_line is t follows = no_line cutting.residue l left cutting.unbroken is_line is
  next_line (line ∷ ls) e l left is_line is t follows =
      let are = each_behind far.taken (line ∷ ls) (subst (Each IsLine) (far.is ∙ ap (λ (xs : List (List ℕ)). far.taken ++ xs) e) cutting.are_lines) in
      let same = known.one_line line l (concat ls ++ cutting.residue) left are.0 is_line (sym (append_assoc line (concat ls) cutting.residue) ∙ is) in
      far.none line ls e (record { to = t; follows = subst (λ (x : List ℕ). Follows setting unbegun (far.taken ++ x ∷ []) t) (sym same.same_line) follows; is = tt })

  one_line_more : (more : List (List ℕ)) → length more ≡ 1 → Each IsLine more → (left : List ℕ) → rest ≡ concat more ++ left → (t : Stage) → Follows setting unbegun (far.taken ++ more) t → ⊥
  unfolding rest
  one_line_more [] counted are left is t follows = absurd (omega (arith, counted))
  one_line_more (l ∷ []) counted are left is t follows = next_line far.left refl l left are.0 (is ∙ ap (λ (x : List ℕ). x ++ left) (append-nil l)) t follows
  one_line_more (l ∷ (m ∷ more)) counted are left is t follows = absurd (omega (arith, counted))

  differs : Agrees setting trace (suc (length far.taken)) → ⊥
  differs agrees =
      let led = trace_led setting agrees.text agrees.is_run in
      let end = concluded led.c led.standing led.ending in
      let all = lines_told known setting tells led.lines end led.leads in
      let text : concat agrees.lines ++ agrees.of_run.rest ≡ concat led.lines ++ [] = sym agrees.of_run.is_text ∙ led.is_text ∙ sym (append-nil (concat led.lines)) in
      let enough = has_lines known.one_line agrees.lines led.lines agrees.of_run.rest agrees.of_run.are_lines all (sym led.is_text ∙ agrees.of_run.is_text) in
      let run = goes_on known.one_line agrees.lines led.lines agrees.of_run.rest [] agrees.of_run.are_lines all text enough in
      let way = splits setting unbegun end agrees.lines run.more (subst (λ (ls : List (List ℕ)). Follows setting unbegun ls end) run.is_more (leads_followed setting led.lines end led.leads)) in
      let on = goes_on known.one_line far.taken agrees.lines rest agrees.of_trace.rest all_lines agrees.of_trace.are_lines (sym is_trace ∙ agrees.of_trace.is_text) (omega (arith, agrees.counted)) in
      one_line_more on.more (omega (arith, agrees.counted, ap (λ (ls : List (List ℕ)). length ls) on.is_more, length-append far.taken on.more))
      (each_behind far.taken on.more (subst (Each IsLine) on.is_more agrees.of_trace.are_lines)) agrees.of_trace.rest on.is_rest way.mid (subst (λ (ls : List (List ℕ)). Follows setting unbegun ls way.mid) on.is_more way.before)

  record Somewhere (s : Stage) : Type 0 where
    end : Simulation
    is_at : IsAt setting s end

  somewhere : (s : Stage) → Somewhere s
  somewhere unbegun = record { end = stands setting start whole; is_at = starts start is_start }
  somewhere (underway c standing) = record { end = stands setting c standing; is_at = refl }
  somewhere (concluded c standing e) = record { end = stands setting c standing; is_at = refl }

  by_run : Decided (IsTrace setting trace) → SomeReplay setting trace
  by_run (inl run) = record { text = trace; outcome = Ended run.ending; end = stands setting run.last run.standing; replays = accepts run }
  by_run (inr no_run) =
      let x = some_expected known setting rest far.leads.to kept in
      let at = somewhere far.leads.to in
      let number = suc (length far.taken) in
      let refused : IsRefusedAt setting trace number =
      record { no_run = no_run; differs = differs; first = λ count less. agrees_led known setting trace far.taken far.leads.to rest start is_start kept leads all_lines is_trace count (omega (arith, less)) } in
      record {
        text = concat far.taken ++ refusal_text number x.expected;
        outcome = Refused number;
        end = at.end;
        replays = refuses far.taken rest far.leads.to x.expected at.end refused all_lines is_trace leads x.expects at.is_at;
      }

  pub some_replay : SomeReplay setting trace
  some_replay = by_run run_decided
