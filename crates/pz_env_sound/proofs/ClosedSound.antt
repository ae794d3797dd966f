-- The closed tree of a sound system is sound, and opens.
use Rattle.std.proofs.Common.{◌≡◌, refl, sym, subst, ℕ, suc, ◌+◌, ◌≤◌, List, [], ◌∷◌, ◌++◌, length, Some, arith}
use Rattle.std.specs.List.{Contains}
use Rattle.pz_env_tree.specs.pz_syntax.declared.clusters.SystemDecl.{SystemDecl}
use Rattle.pz_env_tree.specs.pz_syntax.Classes.{system, ModelTree}
use Rattle.pz_classes_beginnings.specs.Beginning.{begun_all, plain_calls, all_plain_calls, statements_in, statements_in_all}
use Rattle.pz_env_tree.specs.pz_classes_rules.Numbers.{declaration}
use Rattle.pz_env_tree.specs.pz_classes_rules.Reached.{AncestorsAreReached}
use Rattle.pz_env_tree.specs.pz_classes_rules.SoundSystem.{SoundSystemsFit}
use Rattle.pz_env_tree.specs.pz_classes_rules.Soundness.{IsSound}
use Rattle.pz_classes_openings.specs.OpeningRules.{Opens}
use Rattle.pz_env_tree.specs.pz_env_script.declared.entry.Entry.{Entry}
use Rattle.pz_env_tree.specs.pz_env_script.declared.entry.Transfer.{Transfer}
use Rattle.pz_env_tree.specs.pz_env_script.declared.entry.Transfer.TheVariants.{Send, Receive}
use Rattle.pz_env_tree.specs.pz_env_rules.Environment.{Line, lines_of}
use Rattle.pz_env_tree.specs.EnvironmentClass.{exchange, statements, method_of, environment_class}
use Rattle.pz_env_tree.specs.ClosedTree.{environment, closed_system, closed_tree}
use Rattle.pz_env_grown.proofs.Elements.{first_in}
use Rattle.pz_env_sound.proofs.Openings.{grown_opens}
use Rattle.pz_env_sound.proofs.SystemSize.{system_declared}
use Rattle.pz_env_sound.proofs.GrownSound.{IsNew, grown_is_sound}
use Rattle.pz_env_sound.proofs.EnvironmentNames.{environment_apart}
use Rattle.pz_env_sound.proofs.EnvironmentWords.{environment_words}
use Rattle.pz_env_sound.proofs.Unrefused.{IsUnrefused}
use Rattle.pz_env_sound.proofs.NewEnds.{new_channels}
use Rattle.pz_env_sound.proofs.EndsFit.{fresh_class, gains_one, joins_new, few_lines, name_free, ends_there}
use Rattle.pz_env_sound.proofs.EndsFree.{new_ends, few_channels}

begins_waiting : (lines xs : List Line) → begun_all (statements lines xs) ≡ []
begins_waiting lines [] = refl
begins_waiting lines (x ∷ xs) = refl

calls_nothing : (lines xs : List Line) → all_plain_calls (statements lines xs) ≡ []
calls_nothing lines [] = refl
calls_nothing lines (x ∷ xs) = by x.entry.transfer (calls_nothing lines xs)
  where
    by : (t : Transfer) → all_plain_calls (statements lines xs) ≡ []
        → plain_calls (exchange lines x t) ++ all_plain_calls (statements lines xs) ≡ []
    by (Send vs) rest = rest
    by (Receive k) rest = rest

two_each : (lines xs : List Line) → statements_in_all (statements lines xs) ≡ length xs + length xs
two_each lines [] = refl
two_each lines (x ∷ xs) = by x.entry.transfer (two_each lines xs)
  where
    by : (t : Transfer) → statements_in_all (statements lines xs) ≡ length xs + length xs
        → 1 + (statements_in (exchange lines x t) + statements_in_all (statements lines xs)) ≡ suc (length xs) + suc (length xs)
    by (Send vs) rest = omega (arith, rest)
    by (Receive k) rest = omega (arith, rest)

module _ (m : ModelTree) (script : List Entry) (sound : IsSound m) (reached : AncestorsAreReached) (systems_fit : SoundSystemsFit)
    (un : IsUnrefused m script) (few : length script ≤ 100000) where
  abbrev lines : List Line
  lines = lines_of script

  abbrev the_system : SystemDecl
  the_system = (systems_fit m sound).one_system.the_system

  is_declared : (c : ℕ) × (declaration m c ≡ Some (system the_system))
  is_declared =
      system_declared m the_system (subst (λ (xs : List SystemDecl). Contains xs the_system) (sym (systems_fit m sound).one_system.only) (first_in the_system []))

  new_part : IsNew (closed_system lines) (environment_class lines) environment (new_channels lines) m (gains_one lines) (joins_new lines) sound reached (fresh_class m script un) systems_fit
  new_part = record {
    words = environment_words (closed_system lines) lines m sound reached (fresh_class m script un);
    apart = environment_apart lines (few_lines m script sound reached systems_fit un few);
    free = name_free m script sound reached systems_fit un few;
    ends = ends_there m script sound reached systems_fit un few;
    new_ends = new_ends m script sound reached systems_fit un few is_declared.0 the_system is_declared.1;
    room = λ s has. (
      un.processes s has,
      (let own = un.channels s has in
          let more = few_channels m script sound reached systems_fit un few in
          omega (arith, own, more)),
    );
  }

  pub closed_is_sound : IsSound (closed_tree m script)
  closed_is_sound =
      grown_is_sound (closed_system lines) (environment_class lines) environment (new_channels lines) m (gains_one lines) (joins_new lines) sound reached (fresh_class m script un) systems_fit new_part

  pub closed_opens : Opens m → Opens (closed_tree m script)
  closed_opens opens =
      let all = few_lines m script sound reached systems_fit un few in
      let count = two_each lines lines in
      grown_opens (closed_system lines) (environment_class lines) m sound reached (fresh_class m script un) opens (method_of lines) refl (begins_waiting lines lines) (calls_nothing lines lines) (omega (arith, all, count))
