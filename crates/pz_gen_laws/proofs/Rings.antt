-- The text of every ring is that of a model.
use Rattle.std.proofs.Common.{sym, ◌∙◌, ℕ, ◌≤◌}
use Rattle.pz_classes_rules.specs.pz_syntax.declared.tokens.Pos.{Pos}
use Rattle.pz_parser_cursor.specs.Places.{positions}
use Rattle.pz_parser_declarations.specs.ClusterPlaces.{place_system}
use Rattle.pz_gen.specs.Ring as ring
use Rattle.pz_run_reading.specs.Models.{IsTreeOf, IsModelOf}
use Rattle.pz_gen_laws.specs.Rings.{RingsAreModels}
use Rattle.pz_gen_laws.specs.devices.RingBits.{bits}
use Rattle.pz_gen_laws.specs.devices.RingTree.{ring_system, system_at, tree}
use Rattle.pz_gen_laws.proofs.RingCut.{tokens, are_tokens, tokens_are}
use Rattle.pz_gen_laws.proofs.MarksOfBits.{marks_are}
use Rattle.pz_gen_laws.proofs.RingMarks.{marks_are_text}
use Rattle.pz_gen_laws.proofs.RingForm.{is_model, nests, text_is, in_place}
use Rattle.pz_gen_laws.proofs.RingSystem.{is_ring}
use Rattle.pz_gen_laws.proofs.RingSound.{ring_is_sound}
use Rattle.pz_gen_laws.proofs.RingOpens.{ring_opens}

module _ (n : ℕ) where
  at : ℕ → Pos
  at = positions (tokens n)

  is_tree : IsTreeOf (tokens n) (tree at n)
  unfolding at
  is_tree = record {
    is_text = (is_model at n, nests at n, tokens_are n ∙ marks_are (bits n) ∙ marks_are_text n ∙ sym (text_is at n));
    in_place = in_place at n;
  }

  ring_is_model : n ≤ 1000 → IsModelOf (ring.model n) (tree at n)
  ring_is_model few = record {
    tokens = tokens n;
    are_tokens = are_tokens n;
    is_tree = is_tree;
    sound = ring_is_sound at (place_system at system_at (ring_system n)) n few (is_ring at system_at n);
  }

pub rings_are_models : RingsAreModels
rings_are_models n several few = (tree (at n) n, record { is_model = ring_is_model n few; opens = ring_opens (at n) (place_system (at n) system_at (ring_system n)) })
