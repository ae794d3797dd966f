use Rattle.std.proofs.Common.{◌+◌, length, drop, sym, ap, subst, arith, length-drop}
use Rattle.pz_lexer.specs.declared.items.Inside.{Inside as Seen}
use Rattle.pz_lexer.specs.devices.QuotedStep.{inside_at}
use Rattle.pz_lexer.specs.devices.Gives.{Sees}
use Rattle.pz_lexer.proofs.QuotedReads.{seen_is, ItemsTo, items_first, items_on, string_closed, string_bad_escape, string_cut_off}
use Rattle.pz_lexer.proofs.quoted.string.Goals as goal

pub items-init : goal.items-init
items-init c =
    let first = items_first c.args.text.now c.requires in
    (omega (arith, ap length first.spelling), subst (ItemsTo c.args.text.now 1) (sym c.new-values.ensures.items) first)

pub items-preserved : goal.items-preserved
items-preserved c =
    let seen = seen_is 34 (drop c.items.at c.args.text.now) (Seen.Item c.in-Item.value c.in-Item.len) (subst (λ t. Sees (inside_at 34 t) (Seen.Item c.in-Item.value c.in-Item.len)) c.split_at.ensures.back c.in-Item.ensures) in
    let next = items_on c.args.text.now c.items.at c.items.values.items c.items.invariant.1 c.in-Item.value c.in-Item.len seen in
    (next.0, subst (ItemsTo c.args.text.now (c.items.at + c.in-Item.len)) (sym c.in_ok-push-in-Item.ensures.items) next.1)

pub items-smaller : goal.items-smaller
items-smaller c =
    let seen = seen_is 34 (drop c.items.at c.args.text.now) (Seen.Item c.in-Item.value c.in-Item.len) (subst (λ t. Sees (inside_at 34 t) (Seen.Item c.in-Item.value c.in-Item.len)) c.split_at.ensures.back c.in-Item.ensures) in
    omega (arith, seen.0, seen.1, length-drop c.items.at c.args.text.now)

pub returns-in-NoEscape : goal.returns-in-NoEscape
returns-in-NoEscape c = string_bad_escape c.args.text.now c.items.at c.items.values.items c.items.invariant.1 (seen_is 34 (drop c.items.at c.args.text.now) Seen.NoEscape (subst (λ t. Sees (inside_at 34 t) Seen.NoEscape) c.split_at.ensures.back c.in-NoEscape.ensures))

pub returns-in-Closing : goal.returns-in-Closing
returns-in-Closing c =
    rw c.in_ok-text-in-Closing.ensures
    (rw c.new.ensures
    (string_closed c.args.text.now c.items.at c.items.values.items c.items.invariant.1 (seen_is 34 (drop c.items.at c.args.text.now) Seen.Closing (subst (λ t. Sees (inside_at 34 t) Seen.Closing) c.split_at.ensures.back c.in-Closing.ensures))))

pub returns-in-CutOff : goal.returns-in-CutOff
returns-in-CutOff c = string_cut_off c.args.text.now c.items.at c.items.values.items c.items.invariant.1 (seen_is 34 (drop c.items.at c.args.text.now) Seen.CutOff (subst (λ t. Sees (inside_at 34 t) Seen.CutOff) c.split_at.ensures.back c.in-CutOff.ensures))
