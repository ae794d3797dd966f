-- The processes of the code and those of the configuration, by number.
use Rattle.std.proofs.Common.{◌≡◌, ◌<◌, ℕ, List, [], length, map, get_or, Option, Some, refl, sym, subst, ap, ◌∙◌}
use Rattle.std.specs.Prelude.{slice_set}
use Rattle.std.specs.Option.{option_map}
use Rattle.std.proofs.Math.Logic.{∥∥₁_map}
use Rattle.std.proofs.lemmas.List.{length-map, set-get_or}
use Rattle.std.proofs.lemmas.Option.{slice_get-map, slice_get-get_or}
use Rattle.pz_classes_code.specs.pz_syntax.Classes.{ModelTree}
use Rattle.pz_rules.specs.pz_classes_rules.Soundness.{IsSound}
use Rattle.pz_rules.specs.pz_bind_rules.Nest.{processes}
use Rattle.pz_bind.specs.devices.Nets.{IsNet}
use Rattle.pz_bind.specs.declared.net.Net.{Net}
use Rattle.pz_term_processes.specs.declared.process.Process.{Process}
use Rattle.pz_term_processes.specs.Standing.{setting_of, process_view, config_of, AreProcesses}
use Rattle.pz_term_processes.specs.pz_part_queries.declared.standpoint.Standpoint.{Standpoint}
use Rattle.pz_term_processes.specs.pz_part_queries.Standpoints.{Knows}
use Rattle.pz_term_enabled.specs.devices.Seen.{IsSeen}
use Rattle.pz_term_enabled.proofs.Merely.{number_merely}

-- a process that stays as it was leaves all as they were
pub all_stay : (now ps : List Process) (i : ℕ) (p new : Process) → now ≡ ps → new ≡ get_or now i p → slice_set now i new ≡ ps
all_stay now ps i p new same stays = ap (λ (x : Process). slice_set now i x) stays ∙ set-get_or now i p ∙ same

module _ (m : ModelTree) (net : Net) (here : Standpoint) (ps : List Process) (of_model : ∥ IsNet m net ∥₁) (stand : ∥ AreProcesses (setting_of m here.limits) here.clock ps ∥₁) where
  pub counted : (n : ℕ) → (IsNet m net → n ≡ length (processes m)) → n ≡ length (map process_view ps)
  counted n says =
      number_merely n (length (processes m)) of_model says
      ∙ sym (number_merely (length (map process_view ps)) (length (processes m)) stand (λ all. all.whole))

  pub number_within : (n i : ℕ) → (IsNet m net → n ≡ length (processes m)) → i < n → i < length ps
  number_within n i says below = subst (λ (k : ℕ). i < k) (counted n says ∙ length-map ps process_view) below

  -- the process under the number of the standpoint, of so many
  pub seen_there : (n : ℕ) (now : List Process) (p : Process) → (IsNet m net → n ≡ length (processes m)) → IsSound m → Knows m here → now ≡ ps → here.process < n
      → IsSeen m (config_of here.clock ps) net here (get_or now here.process p)
  seen_there n now p says sound known same below = record {
    sound = sound;
    known = known;
    of_model = of_model;
    fit = ∥∥₁_map stand (λ all. all.fit);
    clock = refl;
    place = get_or (processes m) here.process [];
    is_process = slice_get-get_or (processes m) here.process [] (subst (λ (k : ℕ). here.process < k) (number_merely n (length (processes m)) of_model says) below);
    is_here = slice_get-map process_view ps here.process
        ∙ ap (λ (o : Option Process). option_map process_view o)
        (slice_get-get_or ps here.process p (number_within n here.process says below) ∙ ap (λ (xs : List Process). Some (get_or xs here.process p)) (sym same));
  }
