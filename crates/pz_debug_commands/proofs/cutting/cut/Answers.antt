use Rattle.std.proofs.Common.{◌≡◌, ℕ, suc, ◌+◌, List, ◌∷◌, ◌++◌, get_or, take, drop, sym, ap, subst, ◌∙◌, arith}
use Rattle.std.proofs.lemmas.List.{take_all}
use Rattle.pz_debug_commands.specs.Lines.{Lacks}
use Rattle.pz_debug_commands.proofs.Cuts.{lacks_more, parts_at}
use Rattle.pz_debug_commands.proofs.cutting.cut.Goals as goal

pub returns-then-other-byte : goal.returns-then-other-byte
returns-then-other-byte c =
    let text = c.args.text.now in
    let i = c.loop-i.i in
    let same : suc i ≡ i + 1 = omega arith in
    let front : take i text ≡ c.split_at.result.0.now = sym c.split_at.ensures.front in
    let back : drop (suc i) text ≡ c.split_at-then-other-byte.result.1.now = ap (λ (j : ℕ). drop j text) same ∙ sym c.split_at-then-other-byte.ensures.back in (
      subst (Lacks c.args.byte) front c.loop-i.invariant,
      parts_at i text c.loop-i-test.true
          ∙ ap (λ (l : List ℕ). l ++ (get_or text i 0 ∷ drop (suc i) text)) front
          ∙ ap (λ (b : ℕ). c.split_at.result.0.now ++ (b ∷ drop (suc i) text)) c.if-other-byte.true
          ∙ ap (λ (l : List ℕ). c.split_at.result.0.now ++ (c.args.byte ∷ l)) back,
    )

pub loop-i-preserved : goal.loop-i-preserved
loop-i-preserved c =
    let same : suc c.loop-i.i ≡ c.loop-i.i + 1 = omega arith in
    subst (λ (j : ℕ). Lacks c.args.byte (take j c.args.text.now)) same
    (lacks_more c.args.byte c.loop-i.i c.args.text.now c.loop-i-test.true c.loop-i.invariant c.if-other-byte.false)

pub returns : goal.returns
returns c = subst (Lacks c.args.byte) (take_all c.loop-i.i c.args.text.now c.loop-i-test.false) c.loop-i.invariant
