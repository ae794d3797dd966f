use Rattle.std.proofs.Common.{◌≡◌, ◌∙◌, ap, ℕ, ◌<◌, List, length, take, get_or, arith}
use Rattle.pz_classes_lineage.specs.Preorder.{outermost}
use Rattle.pz_check_instances.specs.devices.Open.{kept}
use Rattle.pz_check_instances.proofs.Kept.{outermost_all, outermost_names, length_starts, start_of, outermost_starts}
use Rattle.pz_check_instances.proofs.open_names.OpenNames.close_to.Goals as goal

pub returns-then-depth-len : goal.returns-then-depth-len
returns-then-depth-len c = λ scopes opens.
    let depth = c.args.depth in
    let count = c.index-start.result.now in
    let many : length c.args.self.now.starts.items ≡ length scopes = ap length opens.starts ∙ length_starts scopes in
    let within : depth < length scopes = omega (arith, many) in
    let start : count ≡ length (kept (outermost depth scopes)) = c.index-start.ensures ∙ (ap (λ (starts : List ℕ). get_or starts depth count) opens.starts ∙ start_of depth scopes within count) in
    record {
      names = c.truncate-then-depth-len.ensures ∙ ap (take count) opens.names ∙ ap (λ (n : ℕ). take n (kept scopes)) start ∙ outermost_names depth scopes;
      starts = c.truncate.ensures.items ∙ ap (take depth) opens.starts ∙ outermost_starts depth scopes;
    }

pub returns-else-depth-len : goal.returns-else-depth-len
returns-else-depth-len c = λ scopes opens.
    let many : length c.args.self.now.starts.items ≡ length scopes = ap length opens.starts ∙ length_starts scopes in
    let all : outermost c.args.depth scopes ≡ scopes = outermost_all c.args.depth scopes (omega (arith, many)) in
    rw all (record { names = opens.names; starts = opens.starts })
