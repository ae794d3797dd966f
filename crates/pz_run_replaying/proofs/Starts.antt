-- A model starts in one way.
use Rattle.std.proofs.Common.{◌≡◌, ◌<◌, sym, ap, ◌∙◌, ℕ, List, [], length, get_or, Some, arith}
use Rattle.std.specs.Prelude.{slice_get}
use Rattle.std.proofs.lemmas.List.{ext_get_or}
use Rattle.std.proofs.lemmas.Option.{slice_get-get_or}
use Rattle.pz_rules.specs.pz_bind_rules.Nest.{processes}
use Rattle.pz_bind_levels.specs.Places.{Address}
use Rattle.pz_rules.specs.Terms.{done}
use Rattle.pz_rules.specs.Settings.{Setting, Process}
use Rattle.pz_rules.specs.Configurations.{Config}
use Rattle.pz_rules.specs.Starting.{begins_with, StartsAs, IsStart}

some_is : {A : Type 0} {x y : A} → Some x ≡ Some y → x ≡ y
some_is h = cc

starts_alike : (setting : Setting) (place : Address) (p q : Process) → StartsAs setting place p → StartsAs setting place q → p ≡ q
starts_alike setting place p q x y =
    x.stands ∙ ap (begins_with setting place) (some_is (sym x.is_call ∙ y.is_call)) ∙ sym y.stands

no_process : Process
no_process = record { term = done; state = record { vars = []; frames = []; objects = [] } }

pub one_start : (setting : Setting) (c d : Config) → IsStart setting c → IsStart setting d → c ≡ d
one_start setting c d x y =
    let clocks : c.clock ≡ d.clock = x.clock ∙ sym y.clock in
    let all : c.processes ≡ d.processes = ext_get_or no_process c.processes d.processes (x.all ∙ sym y.all) alike in
    let at : ℕ → Config = λ n. record { clock = n; processes = c.processes } in
    let with_all : List Process → Config = λ ps. record { clock = d.clock; processes = ps } in
    ap at clocks ∙ ap with_all all
  where
    alike : (i : ℕ) → i < length c.processes → get_or c.processes i no_process ≡ get_or d.processes i no_process
    alike i within =
        let place = get_or (processes setting.model) i [] in
        let there : slice_get (processes setting.model) i ≡ Some place = slice_get-get_or (processes setting.model) i [] (omega (arith, within, x.all)) in
        starts_alike setting place (get_or c.processes i no_process) (get_or d.processes i no_process)
        (x.each i place (get_or c.processes i no_process) there (slice_get-get_or c.processes i no_process within))
        (y.each i place (get_or d.processes i no_process) there (slice_get-get_or d.processes i no_process (omega (arith, within, x.all, y.all))))
