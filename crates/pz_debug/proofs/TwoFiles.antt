-- The promises, from what was done with the two files.
use Rattle.std.proofs.Common.{◌≡◌, ◌⊎◌, inl, inr, ⊎_elim, ◌∙◌, ◌<◌, ◌≤◌, ℕ, List, [], ◌∷◌, ◌++◌, true, Option, Some, None, length, refl, sym, subst, ap, arith, append_assoc}
use Rattle.std.specs.Prelude.{Contains}
use Rattle.pz_io.specs.Outside.{Entries, FilesState, SinkState, lookup, raised, Rose, LacksName, FilesFailedLast, Exceeds}
use Rattle.pz_bind.specs.pz_syntax.Classes.{ModelTree}
use Rattle.pz_run_lines.specs.pz_run_reading.declared.read_error.ReadModelError.{ReadModelError}
use Rattle.pz_run_lines.specs.pz_run_reading.declared.read_error.ReadModelError.TheVariants.{NoMemory, Refused}
use Rattle.pz_run_lines.specs.pz_run_reading.Answers.{OnRefused}
use Rattle.pz_run_lines.specs.pz_run_reading.Openings.{IsRefusedToOpen}
use Rattle.pz_run_lines.specs.Lines.{read_fault_line, too_long_line, model_refused_line}
use Rattle.pz_debug.specs.Limits.{model_limit, command_limit}
use Rattle.pz_debug.specs.declared.status.DebugStatus.{DebugStatus}
use Rattle.pz_debug.specs.declared.status.DebugStatus.TheVariants.{Done, ModelRefused, TooLong, ReadFault}
use Rattle.pz_debug.specs.Asked.{Asked}
use Rattle.pz_debug.specs.Files.{model_file, command_file, files_of}
use Rattle.pz_debug.specs.Output.{PrintsSession, replies, PrintsModel, refuses, of_model, PrintsFile, lacks, too_long, reads, PrintsCommands, PrintsAsked, Prints, does}
use Rattle.pz_debug.specs.Promises.{Opens, OpensFiles, OpensLast, HasText, IsNoModel, HasModelText}
use Rattle.pz_debug.specs.Promises as promises
use Rattle.pz_debug.specs.devices.Keeping.{KeepsPromises}
use Rattle.pz_debug.specs.devices.Saying.{NothingWritten, Answers}
use Rattle.pz_debug.specs.devices.Reading.{FileOutcome, wanting, fault, long, whole}
use Rattle.pz_debug.specs.devices.Debugging.{SaysRefusal, PrintsClosed, closed, IsOnlyOpen, WasRead, DebugsText, DebugsFiles, no_model, reads_on}
use Rattle.pz_debug.specs.devices.Debugging as debugging
use Rattle.pz_debug.proofs.Keeps.{raised_rose, IsFaultLine, Wants, keeps, keeps_nothing, opened_once}

some_is : {X : Type 0} (x y : X) → Some x ≡ Some y → x ≡ y
some_is x y e = cc

missing_is : {X : Type 0} (x : X) → None ≡ Some x → ⊥
missing_is x e = cc

pub closed_said : (text : List ℕ) (before now : SinkState) (given : DebugStatus) (e : ReadModelError) → OnRefused (IsRefusedToOpen text) e → SaysRefusal e before now given → Answers (PrintsClosed text) before now given
closed_said text before now given NoMemory is says = inl says
closed_said text before now given (Refused r) is says = inr (record { bytes = model_refused_line r; wanted = ModelRefused; prints = closed r is; said = says })

-- from the text of the model on
pub from_text : (model name : List ℕ) (f mid g : FilesState) (before now : SinkState) (given : DebugStatus) (text : List ℕ) → WasRead (model_file model) text f mid → DebugsText name mid g before now given text
    → DebugsFiles model name f g before now given
from_text model name f mid g before now given text was (debugging.refuses same answers) = no_model (record {
  opened = subst (λ (s : FilesState). s.opens ≡ raised f.opens) (sym same) was.opened;
  names = subst (λ (s : FilesState). s.opened ≡ f.opened ++ (model ∷ [])) (sym same) was.names;
  outcome = whole text (subst (λ (s : FilesState). s.faults ≡ f.faults) (sym same) was.faults) was.short was.content answers;
})
from_text model name f mid g before now given text was (debugging.goes_on m is reading) = reads_on mid text m was is reading

module _ (a : Asked) where
  same_asked : (b : Asked) → Some a ≡ Some b → a ≡ b
  same_asked b e = some_is a b e

  held_here : (held : Entries) (text : List ℕ) → HasText (Some a) held text → lookup held a.model ≡ Some text
  held_here held text x = subst (λ (b : Asked). lookup held b.model ≡ Some text) (sym (same_asked x.asked x.is_asked)) x.is_held

  print_asked : (held : Entries) (bytes : List ℕ) (status : DebugStatus) → PrintsAsked held a bytes status → Prints held (Some a) bytes status
  print_asked held bytes status x = does a bytes status x

  by_lookup : (held : Entries) (o : Option (List ℕ)) (bytes : List ℕ) (status : DebugStatus) → lookup held a.model ≡ o → PrintsFile (model_file a.model) (PrintsModel (PrintsCommands held a.commands)) o bytes status → Prints held (Some a) bytes status
  by_lookup held o bytes status is x =
      print_asked held bytes status (subst (λ (p : Option (List ℕ)). PrintsFile (model_file a.model) (PrintsModel (PrintsCommands held a.commands)) p bytes status) (sym is) x)

  -- ---- the model was refused, or its file not read

  module _ (f g : FilesState) (opened : g.opens ≡ raised f.opens) (names : g.opened ≡ f.opened ++ (a.model ∷ [])) where
    once : Opens (files_of (Some a)) 1 f g
    once = record { names = names; counted = opened }

    opens_one : (s : DebugStatus) → OpensFiles (files_of (Some a)) f g s
    opens_one s = record { count = 1; within = omega arith; first = λ _ _. omega arith; opens = once }

    last_one : OpensLast (files_of (Some a)) f g (model_file a.model)
    last_one = record { place = 0; is = refl; opens = once }

    among_first : Contains (files_of (Some a)) (model_file a.model)
    among_first = (0, omega arith, refl)

    rose_first : FilesFailedLast f g → Rose f.faults g.faults
    rose_first x = raised_rose f.faults g.faults x.0

    first_fault : FilesFailedLast f g ⊎ ((g.faults ≡ f.faults) × LacksName f a.model) → Wants (Some a) f g (read_fault_line a.model) ReadFault
    first_fault cause = record {
      prints = λ told unless. ⊎_elim (λ x. absurd (unless (refl, rose_first x))) (λ missing. prints missing.1.1) cause;
      fault = λ _ _. line;
      front = λ told. ⊎_elim (λ x. inr (rose_first x, line)) (λ missing. inl (prints missing.1.1)) cause;
      opens = opens_one;
      ends = promises.read_fault a;
      model_refused = λ _ is. cc;
      no_model = λ none told unless. absurd (⊎_elim (λ x. unless (refl, rose_first x)) (λ missing. missing_is none.text (sym missing.1.1 ∙ held_here f.held none.text none.is_text)) cause);
      commands_opened = λ _ many. opened_once f g a.model names many;
      too_long = λ is. cc;
      longer = λ _ is. cc;
      read_cause = λ _. ⊎_elim (λ x. inl (rose_first x)) (λ missing. inr (missing.1.0, (model_file a.model, among_first, missing.1.1))) cause;
      reading = λ differ. ⊎_elim (λ x. (x, refl)) (λ missing. absurd (differ missing.0)) cause;
    }
      where
        prints : lookup f.held a.model ≡ None → Prints f.held (Some a) (read_fault_line a.model) ReadFault
        prints missing = by_lookup f.held None (read_fault_line a.model) ReadFault missing lacks

        line : IsFaultLine (files_of (Some a)) f g (read_fault_line a.model)
        line = record { file = model_file a.model; last = last_one; line = refl }

    first_long : g.faults ≡ f.faults → model_limit < g.handed → (f.told ≡ true → Exceeds (lookup f.held a.model) model_limit) → Wants (Some a) f g (too_long_line a.model) TooLong
    first_long kept handed exceeds = record {
      prints = λ told _. prints told;
      fault = λ is _. cc;
      front = λ told. inl (prints told);
      opens = opens_one;
      ends = promises.too_long a;
      model_refused = λ _ is. cc;
      no_model = λ none told _. absurd (too_short none.text none.is_text (exceeds told));
      commands_opened = λ _ many. opened_once f g a.model names many;
      too_long = λ _. (model_file a.model, last_one, handed);
      longer = λ told _. (model_file a.model, among_first, exceeds told);
      read_cause = λ is. cc;
      reading = λ differ. absurd (differ kept);
    }
      where
        prints : f.told ≡ true → Prints f.held (Some a) (too_long_line a.model) TooLong
        prints told = let x = exceeds told in by_lookup f.held (Some x.0) (too_long_line a.model) TooLong x.1 (too_long x.0 x.2)

        too_short : (text : List ℕ) → HasText (Some a) f.held text → Exceeds (lookup f.held a.model) model_limit → ⊥
        too_short text x exceeded =
            let same : length text ≡ length exceeded.0 = ap (λ (l : List ℕ). length l) (some_is text exceeded.0 (sym (held_here f.held text x) ∙ exceeded.1)) in
            omega (arith, same, x.short, exceeded.2)

    first_refused : (text : List ℕ) → g.faults ≡ f.faults → length text ≤ model_limit → (f.told ≡ true → lookup f.held a.model ≡ Some text) → (bytes : List ℕ) (wanted : DebugStatus) → PrintsClosed text bytes wanted → Wants (Some a) f g bytes wanted
    first_refused text kept short held _ _ (closed r is) = record {
      prints = λ told _. prints told;
      fault = λ e _. cc;
      front = λ told. inl (prints told);
      opens = opens_one;
      ends = promises.model_refused a;
      model_refused = λ told _. record { text = text; is_text = record { asked = a; is_asked = refl; is_held = held told; short = short }; refusal = r; is_refused = is };
      no_model = λ none told _. refl;
      commands_opened = λ _ many. opened_once f g a.model names many;
      too_long = λ e. cc;
      longer = λ _ e. cc;
      read_cause = λ e. cc;
      reading = λ differ. absurd (differ kept);
    }
      where
        prints : f.told ≡ true → Prints f.held (Some a) (model_refused_line r) ModelRefused
        prints told = by_lookup f.held (Some text) (model_refused_line r) ModelRefused (held told) (reads text (model_refused_line r) ModelRefused short (refuses r is))

    module _ (before now : SinkState) (given : DebugStatus) where
      none_first : g.faults ≡ f.faults → NothingWritten before now given → KeepsPromises (Some a) f g before now given
      none_first kept nought = keeps_nothing (Some a) f g before now given (opens_one given) (λ _ many. opened_once f g a.model names many) kept nought

      refused_first : (text : List ℕ) → g.faults ≡ f.faults → length text ≤ model_limit → (f.told ≡ true → lookup f.held a.model ≡ Some text) → Answers (PrintsClosed text) before now given → KeepsPromises (Some a) f g before now given
      refused_first text kept short held (inl none) = none_first kept none
      refused_first text kept short held (inr says) = keeps (Some a) f g before now says.bytes says.wanted given (first_refused text kept short held says.bytes says.wanted says.prints) says.said

      keeps_first : FileOutcome (model_file a.model) PrintsClosed f g before now given → KeepsPromises (Some a) f g before now given
      keeps_first (wanting kept none) = none_first kept none
      keeps_first (fault cause said) = keeps (Some a) f g before now (read_fault_line a.model) ReadFault given (first_fault cause) said
      keeps_first (long kept handed exceeds said) = keeps (Some a) f g before now (too_long_line a.model) TooLong given (first_long kept handed exceeds) said
      keeps_first (whole text kept short held answers) = refused_first text kept short held answers

  -- ---- the model was accepted

  module _ (f mid g : FilesState) (text : List ℕ) (m : ModelTree) (was : WasRead (model_file a.model) text f mid) (is : IsOnlyOpen text m) (opened : g.opens ≡ raised mid.opens) (names : g.opened ≡ mid.opened ++ (a.commands ∷ [])) where
    twice : Opens (files_of (Some a)) 2 f g
    twice = record {
      names = names ∙ ap (λ (l : List (List ℕ)). l ++ (a.commands ∷ [])) was.names ∙ append_assoc f.opened (a.model ∷ []) (a.commands ∷ []);
      counted = opened ∙ ap raised was.opened;
    }

    opens_two : (s : DebugStatus) → OpensFiles (files_of (Some a)) f g s
    opens_two s = record { count = 2; within = omega arith; first = λ _ _. omega arith; opens = twice }

    last_two : OpensLast (files_of (Some a)) f g (command_file a.commands)
    last_two = record { place = 1; is = refl; opens = twice }

    among_second : Contains (files_of (Some a)) (command_file a.commands)
    among_second = (1, omega arith, refl)

    accepted : f.told ≡ true → HasModelText (Some a) f.held
    accepted tells = record { text = text; is_text = record { asked = a; is_asked = refl; is_held = was.content tells; short = was.short }; model = m; is_model = is.is_model }

    -- in the files at the start, and in those at which the commands were opened

    told_mid : f.told ≡ true → mid.told ≡ true
    told_mid tells = was.told ∙ tells

    same_held : (o : Option (List ℕ)) → lookup mid.held a.commands ≡ o → lookup f.held a.commands ≡ o
    same_held o found = subst (λ (held : Entries). lookup held a.commands ≡ o) was.held found

    failed : FilesFailedLast mid g → FilesFailedLast f g
    failed x = (x.0 ∙ ap raised was.faults, x.1)

    rose : FilesFailedLast mid g → Rose f.faults g.faults
    rose x = raised_rose f.faults g.faults (failed x).0

    unfailed : g.faults ≡ mid.faults → g.faults ≡ f.faults
    unfailed same = same ∙ was.faults

    printed : (bytes : List ℕ) (status : DebugStatus) → f.told ≡ true → PrintsCommands f.held a.commands m bytes status → Prints f.held (Some a) bytes status
    printed bytes status tells prints = by_lookup f.held (Some text) bytes status (was.content tells) (reads text bytes status was.short (of_model m bytes status is.is_model prints))

    -- the model is accepted
    unrefused : {X : Type 0} → IsNoModel (Some a) f.held → f.told ≡ true → X
    unrefused none tells =
        let same : none.text ≡ text = some_is none.text text (sym (held_here f.held none.text none.is_text) ∙ was.content tells) in
        absurd (is.unrefused none.refusal (subst (λ (t : List ℕ). IsRefusedToOpen t none.refusal) same none.is_refused))

    second_fault : FilesFailedLast mid g ⊎ ((g.faults ≡ mid.faults) × LacksName mid a.commands) → Wants (Some a) f g (read_fault_line a.commands) ReadFault
    second_fault cause = record {
      prints = λ tells unless. ⊎_elim (λ x. absurd (unless (refl, rose x))) (λ x. prints tells (same_held None x.1.1)) cause;
      fault = λ _ _. line;
      front = λ tells. ⊎_elim (λ x. inr (rose x, line)) (λ x. inl (prints tells (same_held None x.1.1))) cause;
      opens = opens_two;
      ends = promises.read_fault a;
      model_refused = λ _ e. cc;
      no_model = λ none tells _. unrefused none tells;
      commands_opened = λ tells _. accepted tells;
      too_long = λ e. cc;
      longer = λ _ e. cc;
      read_cause = λ _. ⊎_elim (λ x. inl (rose x)) (λ x. inr (sym was.told ∙ x.1.0, (command_file a.commands, among_second, same_held None x.1.1))) cause;
      reading = λ differ. ⊎_elim (λ x. (failed x, refl)) (λ x. absurd (differ (unfailed x.0))) cause;
    }
      where
        prints : f.told ≡ true → lookup f.held a.commands ≡ None → Prints f.held (Some a) (read_fault_line a.commands) ReadFault
        prints tells missing = printed (read_fault_line a.commands) ReadFault tells
            (subst (λ (o : Option (List ℕ)). PrintsFile (command_file a.commands) (PrintsSession m) o (read_fault_line a.commands) ReadFault) (sym missing) lacks)

        line : IsFaultLine (files_of (Some a)) f g (read_fault_line a.commands)
        line = record { file = command_file a.commands; last = last_two; line = refl }

    second_long : g.faults ≡ mid.faults → command_limit < g.handed → (mid.told ≡ true → Exceeds (lookup mid.held a.commands) command_limit) → Wants (Some a) f g (too_long_line a.commands) TooLong
    second_long same handed exceeds = record {
      prints = λ tells _. prints tells;
      fault = λ e _. cc;
      front = λ tells. inl (prints tells);
      opens = opens_two;
      ends = promises.too_long a;
      model_refused = λ _ e. cc;
      no_model = λ none tells _. unrefused none tells;
      commands_opened = λ tells _. accepted tells;
      too_long = λ _. (command_file a.commands, last_two, handed);
      longer = λ tells _. (command_file a.commands, among_second, long_here tells);
      read_cause = λ e. cc;
      reading = λ differ. absurd (differ (unfailed same));
    }
      where
        long_here : f.told ≡ true → Exceeds (lookup f.held a.commands) command_limit
        long_here tells = let x = exceeds (told_mid tells) in (x.0, same_held (Some x.0) x.1, x.2)

        prints : f.told ≡ true → Prints f.held (Some a) (too_long_line a.commands) TooLong
        prints tells =
            let x = long_here tells in
            printed (too_long_line a.commands) TooLong tells
            (subst (λ (o : Option (List ℕ)). PrintsFile (command_file a.commands) (PrintsSession m) o (too_long_line a.commands) TooLong) (sym x.1) (too_long x.0 x.2))

    second_read : (t : List ℕ) → g.faults ≡ mid.faults → length t ≤ command_limit → (mid.told ≡ true → lookup mid.held a.commands ≡ Some t) → (bytes : List ℕ) (wanted : DebugStatus) → PrintsSession m t bytes wanted → Wants (Some a) f g bytes wanted
    second_read t same short held _ _ (replies bytes told_so) = record {
      prints = λ tells _. prints tells;
      fault = λ e _. cc;
      front = λ tells. inl (prints tells);
      opens = opens_two;
      ends = promises.done a;
      model_refused = λ _ e. cc;
      no_model = λ none tells _. unrefused none tells;
      commands_opened = λ tells _. accepted tells;
      too_long = λ e. cc;
      longer = λ _ e. cc;
      read_cause = λ e. cc;
      reading = λ differ. absurd (differ (unfailed same));
    }
      where
        prints : f.told ≡ true → Prints f.held (Some a) bytes Done
        prints tells = printed bytes Done tells
            (subst (λ (o : Option (List ℕ)). PrintsFile (command_file a.commands) (PrintsSession m) o bytes Done) (sym (same_held (Some t) (held (told_mid tells)))) (reads t bytes Done short (replies bytes told_so)))

    module _ (before now : SinkState) (given : DebugStatus) where
      none_second : g.faults ≡ mid.faults → NothingWritten before now given → KeepsPromises (Some a) f g before now given
      none_second same none = keeps_nothing (Some a) f g before now given (opens_two given) (λ tells _. accepted tells) (unfailed same) none

      read_second : (t : List ℕ) → g.faults ≡ mid.faults → length t ≤ command_limit → (mid.told ≡ true → lookup mid.held a.commands ≡ Some t) → Answers (PrintsSession m t) before now given → KeepsPromises (Some a) f g before now given
      read_second t same short held (inl none) = none_second same none
      read_second t same short held (inr says) = keeps (Some a) f g before now says.bytes says.wanted given (second_read t same short held says.bytes says.wanted says.prints) says.said

      keeps_second : FileOutcome (command_file a.commands) (PrintsSession m) mid g before now given → KeepsPromises (Some a) f g before now given
      keeps_second (wanting same none) = none_second same none
      keeps_second (fault cause said) = keeps (Some a) f g before now (read_fault_line a.commands) ReadFault given (second_fault cause) said
      keeps_second (long same handed exceeds said) = keeps (Some a) f g before now (too_long_line a.commands) TooLong given (second_long same handed exceeds) said
      keeps_second (whole t same short held answers) = read_second t same short held answers

pub keeps_files : (a : Asked) (f g : FilesState) (before now : SinkState) (given : DebugStatus) → DebugsFiles a.model a.commands f g before now given → KeepsPromises (Some a) f g before now given
keeps_files a f g before now given (no_model reading) = keeps_first a f g reading.opened reading.names before now given reading.outcome
keeps_files a f g before now given (reads_on mid text m was is reading) = keeps_second a f mid g text m was is reading.opened reading.names before now given reading.outcome
