-- A model starts in one configuration.
use Rattle.std.proofs.Common.{◌≡◌, ℕ, suc, true, false, List, [], ◌∷◌, length, Option, Some, None, refl, sym, subst, ap, ◌∙◌, arith}
use Rattle.std.specs.Prelude.{slice_get, map, IsTrue}
use Rattle.std.specs.Option.{option_map, option_map_or}
use Rattle.std.proofs.lemmas.Option.{slice_get_within, get_or_from_slice_get, slice_get-map}
use Rattle.std.proofs.lemmas.List.{length-map}
use Rattle.std.proofs.lemmas.List.Elements.{filter_passes}
use Rattle.pz_bind_rules.specs.pz_syntax.Classes.{DeclTree, ModelTree}
use Rattle.pz_bind_rules.specs.pz_classes_rules.Numbers.{declaration}
use Rattle.pz_bind_rules.specs.pz_classes_rules.Kinds.{is_process}
use Rattle.pz_bind_rules.specs.pz_classes_rules.SoundClasses.{ClassesFit}
use Rattle.pz_bind_levels.specs.Places.{Address}
use Rattle.pz_bind_rules.specs.Nest.{class_at, is_process_at, places, processes}
use Rattle.pz_rules.specs.Settings.{Setting, Process}
use Rattle.pz_rules.specs.Configurations.{Config}
use Rattle.pz_rules.specs.Openable.{IsProcessClass}
use Rattle.pz_rules.specs.Starting.{StartsAs, IsStart}
use Rattle.pz_rules.specs.devices.Start.{begins_by, start_at, start_of}
use Rattle.pz_rules.proofs.Locals.{some_is}

-- No other

begins_so : (setting : Setting) (place : Address) (p : Process) → StartsAs setting place p → p ≡ start_at setting place
begins_so setting place p starts = starts.stands ∙ ap (begins_by setting place) (sym starts.is_call)

all_begin : (setting : Setting) (at : List Address) (ps : List Process) → length ps ≡ length at
    → ((i : ℕ) (place : Address) (p : Process) → slice_get at i ≡ Some place → slice_get ps i ≡ Some p → StartsAs setting place p)
    → ps ≡ map (start_at setting) at
all_begin setting [] [] long each = refl
all_begin setting [] (p ∷ ps) long each = absurd (omega (arith, long))
all_begin setting (x ∷ xs) [] long each = absurd (omega (arith, long))
all_begin setting (x ∷ xs) (p ∷ ps) long each =
    let rest : ps ≡ map (start_at setting) xs = all_begin setting xs ps (omega (arith, long)) (λ i place q at is. each (suc i) place q at is) in
    ap (λ (q : Process). q ∷ ps) (begins_so setting x p (each 0 x p refl refl)) ∙ ap (λ (qs : List Process). start_at setting x ∷ qs) rest

abbrev config : ℕ → List Process → Config
config clock ps = record { clock = clock; processes = ps }

start_is : (setting : Setting) (c : Config) → IsStart setting c → c ≡ start_of setting
start_is setting c start =
    ap (λ (n : ℕ). config n c.processes) start.clock
    ∙ ap (config 0) (all_begin setting (processes setting.model) c.processes start.all start.each)

pub one_start : (setting : Setting) (c d : Config) → IsStart setting c → IsStart setting d → c ≡ d
one_start setting c d starts other = start_is setting c starts ∙ sym (start_is setting d other)

-- One

record IsProcessDeclared (m : ModelTree) (class : ℕ) : Type 0 where
  pub decl : DeclTree
  pub declared : declaration m class ≡ Some decl
  pub process : IsTrue (is_process decl)

declared : (m : ModelTree) (place : Address) → is_process_at m place ≡ true → IsProcessDeclared m (class_at m place)
declared m [] e = absurd (differ e)
  where
    differ : false ≡ true → ⊥
    differ e = cc
declared m (i ∷ up) e = by (declaration m (class_at m (i ∷ up))) refl e
  where
    by : (o : Option DeclTree) → declaration m (class_at m (i ∷ up)) ≡ o → option_map_or is_process o false ≡ true → IsProcessDeclared m (class_at m (i ∷ up))
    by None is none = absurd cc
    by (Some d) is process = record { decl = d; declared = is; process = process }

stands_process : (m : ModelTree) (i : ℕ) (place : Address) → slice_get (processes m) i ≡ Some place → is_process_at m place ≡ true
stands_process m i place at =
    subst (λ (x : Address). is_process_at m x ≡ true) (get_or_from_slice_get (processes m) i place place at)
    (filter_passes (is_process_at m) (places m) i place (slice_get_within (processes m) i place at))

pub computed : (setting : Setting) → ClassesFit setting.model → IsStart setting (start_of setting)
computed setting fit = record {
  clock = refl;
  all = length-map (processes setting.model) (start_at setting);
  each = λ i place p at is.
      let class = class_at setting.model place in
      let here = declared setting.model place (stands_process setting.model i place at) in
      let starts = fit.starts class here.decl here.declared here.process in
      let so : p ≡ start_at setting place = some_is (sym is ∙ slice_get-map (start_at setting) (processes setting.model) i ∙ ap (option_map (start_at setting)) at) in
      record {
        call = _;
        is_call = starts.is_call;
        stands = so ∙ ap (begins_by setting place) starts.is_call;
      };
}

-- Each process is of a process class
pub of_process_class : (m : ModelTree) (i : ℕ) (place : Address) → slice_get (processes m) i ≡ Some place → IsProcessClass m (class_at m place)
of_process_class m i [] at = absurd (differ (stands_process m i [] at))
  where
    differ : false ≡ true → ⊥
    differ e = cc
of_process_class m i (k ∷ up) at = stands_process m i (k ∷ up) at
