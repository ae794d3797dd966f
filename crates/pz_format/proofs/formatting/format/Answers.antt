use Rattle.std.proofs.Common.{◌≡◌, ◌∙◌, sym, ap, subst, ◌++◌}
use Rattle.pz_format.specs.Layout.{layout}
use Rattle.pz_format.specs.ReadingBack.{ReadsBack}
use Rattle.pz_format.proofs.ReadBack.{reads_back, read_again}
use Rattle.pz_format.proofs.formatting.format.Goals as goal
use Rattle.pz_format.proofs.formatting.format.Goals.{In_ok-put_pieces}

is_layout : (c : In_ok-put_pieces) → c.put_pieces.new.text.items ≡ layout c.args.pieces.now
is_layout c = c.in_ok-put_pieces.ensures ∙ ap (λ l. l ++ layout c.args.pieces.now) c.in_ok-text.ensures.items

pub returns-clause-layout : goal.returns-clause-layout
returns-clause-layout c = is_layout c

pub returns-clause-reads_back : goal.returns-clause-reads_back
returns-clause-reads_back c =
    λ model kept bytes apart. subst (λ t. ReadsBack t c.args.pieces.now) (sym (is_layout c)) (reads_back model c.args.pieces.now kept bytes apart)

pub returns-clause-again : goal.returns-clause-again
returns-clause-again c =
    λ model kept bytes apart read is. read_again model c.args.pieces.now c.put_pieces.new.text.items (is_layout c) kept bytes apart read is
