use Rattle.std.proofs.Common.{◌≡◌, ◌+◌, ℕ, false, ap, sym, subst}
use Rattle.pz_classes_code.specs.CodeView as code
use Rattle.pz_tree_refreshing.specs.pz_rules.Settings.{Context}
use Rattle.pz_tree_refreshing.specs.pz_tree_nodes.declared.node.Head as lying
use Rattle.pz_tree_refreshing.specs.pz_tree_nodes.declared.node.Head.TheVariants as kind
use Rattle.pz_tree_refreshing.specs.pz_tree_nodes.View.{head_view}
use Rattle.pz_tree_elapsing.specs.devices.Wakes.{asked_anew, WakeRule}
use Rattle.pz_tree_elapsing.proofs.ByForm.{plain_goes, guard_goes}
use Rattle.pz_tree_elapsing.proofs.Delaying.{delay_goes_on}
use Rattle.pz_tree_elapsing.proofs.waking.gone_on.Goals as goal

pub returns-in-Seq : goal.returns-in-Seq
returns-in-Seq c = record {
  goes = λ a d f t time unnamed.
      plain_goes a d f t c.args.head (kind.Seq c.in-Seq.rest) c.args.kept.now c.silent-in-Seq.result c.in-Seq.is c.silent-in-Seq.ensures.head c.silent-in-Seq.ensures.kept tt;
}

pub returns-in-Par : goal.returns-in-Par
returns-in-Par c = record {
  goes = λ a d f t time unnamed.
      plain_goes a d f t c.args.head kind.Par c.args.kept.now c.silent-in-Par.result c.in-Par.is c.silent-in-Par.ensures.head c.silent-in-Par.ensures.kept tt;
}

pub returns-in-Sel : goal.returns-in-Sel
returns-in-Sel c = record {
  goes = λ a d f t time unnamed.
      plain_goes a d f t c.args.head kind.Sel c.args.kept.now c.silent-in-Sel.result c.in-Sel.is c.silent-in-Sel.ensures.head c.silent-in-Sel.ensures.kept tt;
}

pub returns-in-Frame : goal.returns-in-Frame
returns-in-Frame c = record {
  goes = λ a d f t time unnamed.
      plain_goes a d f t c.args.head (kind.Frame c.in-Frame.frame c.in-Frame.inputs c.in-Frame.results) c.args.kept.now c.silent-in-Frame.result c.in-Frame.is c.silent-in-Frame.ensures.head c.silent-in-Frame.ensures.kept tt;
}

pub returns-in-Abort : goal.returns-in-Abort
returns-in-Abort c = record {
  goes = λ a d f t time unnamed.
      plain_goes a d f t c.args.head kind.Abort c.args.kept.now c.silent-in-Abort.result c.in-Abort.is c.silent-in-Abort.ensures.head c.silent-in-Abort.ensures.kept tt;
}

pub returns-in-Idle : goal.returns-in-Idle
returns-in-Idle c = record {
  goes = λ a d f t time unnamed.
      plain_goes a d f t c.args.head (kind.Idle c.in-Idle.again c.in-Idle.shift) c.args.kept.now c.silent-in-Idle.result c.in-Idle.is c.silent-in-Idle.ensures.head c.silent-in-Idle.ensures.kept tt;
}

pub returns-in-Handling : goal.returns-in-Handling
returns-in-Handling c = record {
  goes = λ a d f t time unnamed.
      plain_goes a d f t c.args.head (kind.Handling c.in-Handling.again c.in-Handling.shift) c.args.kept.now c.silent-in-Handling.result c.in-Handling.is c.silent-in-Handling.ensures.head c.silent-in-Handling.ensures.kept tt;
}

pub returns-in-Shifted : goal.returns-in-Shifted
returns-in-Shifted c = record {
  goes = λ a d f t time unnamed.
      plain_goes a d f t c.args.head (kind.Shifted c.in-Shifted.shift) c.args.kept.now c.silent-in-Shifted.result c.in-Shifted.is c.silent-in-Shifted.ensures.head c.silent-in-Shifted.ensures.kept tt;
}

pub returns-in-Guard : goal.returns-in-Guard
returns-in-Guard c = record {
  goes = λ a d f t time unnamed.
      let own = c.silent in
      guard_goes c.steady_terms_keep_summaries.ensures.tests a d f t (code.view c.in-Guard.test) c.in-Guard.pos c.in-Guard.shift (head_view c.args.head) c.args.kept.now own.result.kept (head_view own.result.head)
      (ap head_view c.in-Guard.is) (ap head_view own.ensures.head) own.ensures.kept unnamed;
}

pub returns-in-Wait : goal.returns-in-Wait
returns-in-Wait c = record {
  goes = λ a d f t time unnamed.
      let own = c.waits in
      subst (λ z. WakeRule a d f t z c.args.kept.now (head_view own.result.head) own.result.kept) (sym (ap head_view c.in-Wait.is))
      (delay_goes_on a d f t c.args.clock c.in-Wait.due c.in-Wait.pos c.args.kept.now own.result.kept (head_view own.result.head) time (ap head_view own.ensures.head) own.ensures.kept);
}

pub returns-in-Leaf : goal.returns-in-Leaf
returns-in-Leaf c = record {
  goes =
      subst (λ (z : lying.Head). (a : Context) (d f t : ℕ) → t + d ≡ c.args.clock → asked_anew (head_view z) ≡ false → WakeRule a d f t (head_view z) c.args.kept.now (head_view c.begun.result.head) c.begun.result.kept) (sym c.in-Leaf.is)
      c.begun.ensures.goes;
}
