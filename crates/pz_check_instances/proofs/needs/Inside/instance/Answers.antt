use Rattle.std.proofs.Common.{◌≡◌, ◌∙◌, None, rules}
use Rattle.std.specs.Option.{option_copied}
use Rattle.pz_classes_code.specs.pz_syntax.ClassView.{decl_view}
use Rattle.pz_classes.specs.pz_classes_rules.Instances.{instances}
use Rattle.pz_check_instances.specs.devices.Ends.{place_named}
use Rattle.pz_check_instances.proofs.Instances.{named_is, named_none}
use Rattle.pz_check_instances.proofs.needs.Inside.instance.Goals as goal

pub returns-in_err-place : goal.returns-in_err-place
returns-in_err-place c =
    let gone : option_copied c.from_residual.result ≡ None = search rules in
    let spelled : c.as_bytes.result.now ≡ c.args.name.now = search rules in
    let place : c.get.result ≡ place_named 0 (instances (decl_view c.args.self.now.decl.now)) c.args.name.now = rw spelled at c.get.ensures ∙ c.requires c.args.name.now in
    rw gone (named_none (instances (decl_view c.args.self.now.decl.now)) c.args.name.now c.get.result place c.in_err-place.was)

pub returns : goal.returns
returns c =
    let spelled : c.as_bytes.result.now ≡ c.args.name.now = search rules in
    let place : c.get.result ≡ place_named 0 (instances (decl_view c.args.self.now.decl.now)) c.args.name.now = rw spelled at c.get.ensures ∙ c.requires c.args.name.now in
    rw (c.instance_at.ensures, c.instances_of.ensures) (named_is (instances (decl_view c.args.self.now.decl.now)) c.args.name.now c.get.result c.in_ok-place.place place c.in_ok-place.was)
