-- The promises, from what was to be said and that it was said.
use Rattle.std.proofs.Common.{◌≡◌, ◌≢◌, ◌⊎◌, ◌<◌, ◌+◌, inl, inr, ⊎_elim, ℕ, List, [], ◌∷◌, ◌++◌, true, Option, Some, None, length, sym, subst, ap, ◌∙◌, refl, arith, length-append}
use Rattle.std.proofs.lemmas.Grind.{common_steps}
use Rattle.std.proofs.lemmas.List.{append-nil}
use Rattle.pz_io.specs.Outside.{FilesState, SinkState, raised, Rose, FilesFailedLast}
use Rattle.pz_io.specs.Writing.{TookFront}
use Rattle.pz_run_lines.specs.Lines.{read_fault_line}
use Rattle.pz_debug.specs.declared.status.DebugStatus.{DebugStatus}
use Rattle.pz_debug.specs.declared.status.DebugStatus.TheVariants.{Done, Usage, ModelRefused, TooLong, ReadFault, WriteFault, NoMemory}
use Rattle.pz_debug.specs.Asked.{Asked, usage_line}
use Rattle.pz_debug.specs.Files.{JobFile, files_of}
use Rattle.pz_debug.specs.Output.{Prints, usage}
use Rattle.pz_debug.specs.Promises.{OpensFiles, OpensLast, IsPastLimit, Lacks, IsLonger, IsNoModel, HasModelText, CanEnd}
use Rattle.pz_debug.specs.Promises as promises
use Rattle.pz_debug.specs.devices.Keeping.{KeepsPromises}
use Rattle.pz_debug.specs.devices.Saying.{Said, NothingWritten}

-- a count that was raised rose
pub raised_rose : (before now : ℕ) → now ≡ raised before → Rose before now
raised_rose before now is = grind (arith, common_steps, is)

-- whatever can come in the place of a status can
pub can_end : (a : Option Asked) (given wanted : DebugStatus) → (given ≢ WriteFault → given ≢ NoMemory → given ≡ wanted) → CanEnd a wanted → CanEnd a given
can_end a WriteFault wanted is can = promises.write_fault a
can_end a NoMemory wanted is can = promises.no_memory a
can_end a Done wanted is can = subst (CanEnd a) (sym (is (λ e. cc) (λ e. cc))) can
can_end a Usage wanted is can = subst (CanEnd a) (sym (is (λ e. cc) (λ e. cc))) can
can_end a ModelRefused wanted is can = subst (CanEnd a) (sym (is (λ e. cc) (λ e. cc))) can
can_end a TooLong wanted is can = subst (CanEnd a) (sym (is (λ e. cc) (λ e. cc))) can
can_end a ReadFault wanted is can = subst (CanEnd a) (sym (is (λ e. cc) (λ e. cc))) can

pub no_usage : (a : Option Asked) (s : DebugStatus) → CanEnd a s → s ≡ Usage → a ≡ None
no_usage _ _ promises.usage is = refl
no_usage _ _ (promises.done a) is = cc
no_usage _ _ (promises.model_refused a) is = cc
no_usage _ _ (promises.too_long a) is = cc
no_usage _ _ (promises.read_fault a) is = cc
no_usage _ _ (promises.write_fault a) is = cc
no_usage _ _ (promises.no_memory a) is = cc

pub only_usage : (a : Option Asked) (s : DebugStatus) → CanEnd a s → a ≡ None → s ≢ WriteFault → s ≢ NoMemory → s ≡ Usage
only_usage _ _ promises.usage is no_fault no_want = refl
only_usage _ _ (promises.done a) is no_fault no_want = cc
only_usage _ _ (promises.model_refused a) is no_fault no_want = cc
only_usage _ _ (promises.too_long a) is no_fault no_want = cc
only_usage _ _ (promises.read_fault a) is no_fault no_want = cc
only_usage _ _ (promises.write_fault a) is no_fault no_want = absurd (no_fault refl)
only_usage _ _ (promises.no_memory a) is no_fault no_want = absurd (no_want refl)

-- this is the line of a read fault of the last file that was opened
pub record IsFaultLine (files : List JobFile) (f g : FilesState) (bytes : List ℕ) : Type 0 where
  pub file : JobFile
  pub last : OpensLast files f g file
  pub line : bytes ≡ read_fault_line file.name

-- what is to be said, and the status that goes with it
pub record Wants (a : Option Asked) (f g : FilesState) (bytes : List ℕ) (wanted : DebugStatus) : Type 0 where
  pub prints : f.told ≡ true → ¬ ((wanted ≡ ReadFault) × Rose f.faults g.faults) → Prints f.held a bytes wanted
  pub fault : wanted ≡ ReadFault → Rose f.faults g.faults → IsFaultLine (files_of a) f g bytes
  pub front : f.told ≡ true → Prints f.held a bytes wanted ⊎ (Rose f.faults g.faults × IsFaultLine (files_of a) f g bytes)
  pub opens : (s : DebugStatus) → OpensFiles (files_of a) f g s
  pub ends : CanEnd a wanted
  pub model_refused : f.told ≡ true → wanted ≡ ModelRefused → IsNoModel a f.held
  pub no_model : IsNoModel a f.held → f.told ≡ true → ¬ ((wanted ≡ ReadFault) × Rose f.faults g.faults) → wanted ≡ ModelRefused
  pub commands_opened : f.told ≡ true → length f.opened + 1 < length g.opened → HasModelText a f.held
  pub too_long : wanted ≡ TooLong → IsPastLimit (files_of a) f g
  pub longer : f.told ≡ true → wanted ≡ TooLong → IsLonger (files_of a) f.held
  pub read_cause : wanted ≡ ReadFault → Rose f.faults g.faults ⊎ ((f.told ≡ true) × Lacks (files_of a) f.held)
  pub reading : g.faults ≢ f.faults → FilesFailedLast f g × (wanted ≡ ReadFault)

module _ (a : Option Asked) (f g : FilesState) (before now : SinkState) (bytes : List ℕ) (wanted given : DebugStatus) (wants : Wants a f g bytes wanted) (said : Said before now bytes wanted given) where
  is_wanted : (s : DebugStatus) → given ≡ s → s ≢ WriteFault → s ≢ NoMemory → wanted ≡ s
  is_wanted s is no_fault no_want = sym (said.is_wanted (λ e. no_fault (sym is ∙ e)) (λ e. no_want (sym is ∙ e))) ∙ is

  not_before : (s t : DebugStatus) → given ≡ s → s ≢ t → given ≢ t
  not_before s t is differ e = differ (sym is ∙ e)

  pub keeps : KeepsPromises a f g before now given
  keeps = record {
    output = λ told no_fault no_want unless.
        let same = said.is_wanted no_fault no_want in record {
          bytes = bytes;
          prints = subst (λ (s : DebugStatus). Prints f.held a bytes s) (sym same) (wants.prints told (λ both. unless (same ∙ both.0, both.1)));
          taken = λ tells. said.whole tells no_fault no_want;
        };
    read_fault = λ is rose.
        let line = wants.fault (is_wanted ReadFault is (λ e. cc) (λ e. cc)) rose in record {
          file = line.file;
          last = line.last;
          taken = λ tells. said.whole tells (not_before ReadFault WriteFault is (λ e. cc)) (not_before ReadFault NoMemory is (λ e. cc)) ∙ ap (λ (l : List ℕ). before.taken ++ l) line.line;
        };
    opens = wants.opens given;
    front = λ told tells. inr (⊎_elim
        (λ prints. inl (record { bytes = bytes; status = wanted; prints = prints; front = said.front tells }))
        (λ fault. inr (fault.0, record { file = fault.1.file; last = fault.1.last; front = subst (TookFront before now) fault.1.line (said.front tells) }))
        (wants.front told));
    statuses = can_end a given wanted said.is_wanted wants.ends;
    model_refused = λ told is. wants.model_refused told (is_wanted ModelRefused is (λ e. cc) (λ e. cc));
    no_model = λ none told no_fault no_want unless.
        let same = said.is_wanted no_fault no_want in same ∙ wants.no_model none told (λ both. unless (same ∙ both.0, both.1));
    commands_opened = wants.commands_opened;
    too_long = λ is. wants.too_long (is_wanted TooLong is (λ e. cc) (λ e. cc));
    longer = λ told is. wants.longer told (is_wanted TooLong is (λ e. cc) (λ e. cc));
    read_cause = λ is. wants.read_cause (is_wanted ReadFault is (λ e. cc) (λ e. cc));
    reading = λ differ.
        let x = wants.reading differ in record { last = x.0; said = λ no_fault no_want. said.is_wanted no_fault no_want ∙ x.1 };
    writing = said.writing;
  }

-- memory was wanting before anything was said
pub keeps_nothing : (a : Option Asked) (f g : FilesState) (before now : SinkState) (given : DebugStatus) → OpensFiles (files_of a) f g given → (f.told ≡ true → length f.opened + 1 < length g.opened → HasModelText a f.held)
    → g.faults ≡ f.faults → NothingWritten before now given → KeepsPromises a f g before now given
keeps_nothing a f g before now given opens accepted kept none = record {
  output = λ _ _ no_want _. absurd (no_want none.wanting);
  read_fault = λ is _. absurd (other ReadFault is (λ e. cc));
  opens = opens;
  front = λ _ _. inl (ap (λ (s : SinkState). s.taken) none.unchanged);
  statuses = subst (CanEnd a) (sym none.wanting) (promises.no_memory a);
  model_refused = λ _ is. absurd (other ModelRefused is (λ e. cc));
  no_model = λ _ _ _ no_want _. absurd (no_want none.wanting);
  commands_opened = accepted;
  too_long = λ is. absurd (other TooLong is (λ e. cc));
  longer = λ _ is. absurd (other TooLong is (λ e. cc));
  read_cause = λ is. absurd (other ReadFault is (λ e. cc));
  reading = λ differ. absurd (differ kept);
  writing = record { kept = λ _. ap (λ (s : SinkState). s.faults) none.unchanged; last = λ is. absurd (other WriteFault is (λ e. cc)) };
}
  where
    other : (s : DebugStatus) → given ≡ s → NoMemory ≢ s → ⊥
    other s is differ = differ (sym none.wanting ∙ is)

-- where one file was opened, there are not two
pub opened_once : {X : Type 0} (f g : FilesState) (name : List ℕ) → g.opened ≡ f.opened ++ (name ∷ []) → length f.opened + 1 < length g.opened → X
opened_once f g name once many =
    let counted : length g.opened ≡ length f.opened + 1 = ap (λ (l : List (List ℕ)). length l) once ∙ length-append f.opened (name ∷ []) in
    absurd (omega (arith, counted, many))

opened_never : {X : Type 0} (count : ℕ) → count + 1 < count → X
opened_never count many = absurd (omega (arith, many))

none_asked : (a : Asked) → None ≡ Some a → ⊥
none_asked a e = cc

-- nothing is asked for
pub keeps_usage : (f : FilesState) (before now : SinkState) (given : DebugStatus) → Said before now usage_line Usage given → KeepsPromises None f f before now given
keeps_usage f before now given said = keeps None f f before now usage_line Usage given wants said
  where
    wants : Wants None f f usage_line Usage
    wants = record {
      prints = λ _ _. usage;
      fault = λ is _. cc;
      front = λ _. inl usage;
      opens = λ s. record { count = 0; within = omega arith; first = λ _ some. absurd (omega (arith, some)); opens = record { names = sym (append-nil f.opened); counted = refl } };
      ends = promises.usage;
      model_refused = λ _ is. cc;
      no_model = λ none _ _. absurd (none_asked none.is_text.asked none.is_text.is_asked);
      commands_opened = λ _ many. opened_never (length f.opened) many;
      too_long = λ is. cc;
      longer = λ _ is. cc;
      read_cause = λ is. cc;
      reading = λ differ. absurd (differ refl);
    }
