-- Resolving lists one by one.
use Rattle.std.proofs.Common.{◌≡◌, refl, ap, ℕ, ◌≤◌, List, [], ◌∷◌, map, take, length, Option, Some, None, rules}
use Rattle.std.proofs.lemmas.List.{take_all}
use Rattle.pz_syntax.specs.declared.tokens.Pos.{Pos}
use Rattle.pz_syntax.specs.declared.exprs.ExprForm.{ExprForm}
use Rattle.pz_syntax.specs.declared.exprs.ExprForm.TheVariants as ours
use Rattle.pz_classes_code.specs.declared.code.Code.{Code}
use Rattle.pz_classes_code.specs.declared.code.CodeForm.TheVariants as theirs
use Rattle.pz_classes_code.specs.declared.code.CodeForm.TheFolds.{the_lemmas}
use Rattle.pz_syntax.specs.declared.exprs.ExprForm.TheFolds as old
use Rattle.pz_classes_code.specs.declared.code.CodeLink.{CodeLink}
use Rattle.pz_classes_code.specs.declared.code.CodeSending.{CodeSending}
use Rattle.pz_syntax.specs.declared.exprs.Expr.{Expr}
use Rattle.pz_syntax.specs.declared.exprs.Link.{Link}
use Rattle.pz_syntax.specs.declared.exprs.Sending.{Sending}
use Rattle.pz_syntax.specs.Expressions.{choice, Expressions, more, left_out, written, Links, link, Sendings, sending}
use Rattle.pz_syntax.specs.ExpressionView as tree
use Rattle.pz_value.specs.declared.value.ClassId.{ClassId}
use Rattle.pz_classes_code.specs.declared.slot.Slot.{Slot}
use Rattle.pz_classes_code.specs.CodeView as code
use Rattle.pz_classes_code.specs.Resolution.{Scope, resolved, resolved_all, resolved_part, resolved_links, resolved_sendings}

abbrev pub resolved_link : Scope → tree.LinkTree → code.LinkTree
resolved_link scope l = (l.0, l.1, resolved scope l.2)

abbrev pub resolved_sending : Scope → tree.SendingTree → code.SendingTree
resolved_sending scope s = (s.0, resolved_part scope s.1)

-- what a choice stands for
shows : (pos : Pos) (test : Code) (part : List Code) (rest : Option (List Code)) → code.form_view (theirs.If test part rest) pos ≡ choice pos (code.view test) (code.list_view part) (code.part_view rest)
shows pos test part rest = search (rules, the_lemmas)

stands : (pos : Pos) (test : Expr) (part : List Expr) (rest : Option (List Expr)) → tree.form_view (ours.If test part rest) pos ≡ choice pos (tree.view test) (tree.list_view part) (tree.part_view rest)
stands pos test part rest = search (rules, old.the_lemmas)

module _ (scope : Scope) where
  pub list_resolved : (es : List Expr) → code.list_of (map (λ e. resolved scope (tree.view e)) es) ≡ resolved_all scope (tree.list_view es)
  list_resolved [] = refl
  list_resolved (e ∷ es) = ap (λ (ts : Expressions Slot ClassId). more (resolved scope (tree.view e)) ts) (list_resolved es)

  pub links_resolved : (ls : List Link) → code.links_of (map (λ l. resolved_link scope (tree.link_view l)) ls) ≡ resolved_links scope (tree.links_of (map tree.link_view ls))
  links_resolved [] = refl
  links_resolved (l ∷ ls) = ap (λ (ts : Links Slot ClassId). link (tree.link_view l).0 (tree.link_view l).1 (resolved scope (tree.link_view l).2) ts) (links_resolved ls)

  pub sendings_resolved : (ss : List Sending) → code.sendings_of (map (λ s. resolved_sending scope (tree.sending_view s)) ss) ≡ resolved_sendings scope (tree.sendings_of (map tree.sending_view ss))
  sendings_resolved [] = refl
  sendings_resolved (s ∷ ss) = ap (λ (ts : Sendings Slot ClassId). sending (tree.sending_view s).0 (resolved_part scope (tree.sending_view s).1) ts) (sendings_resolved ss)

  pub list_done : (cs : List Code) (es : List Expr) (i : ℕ) → length es ≤ i → map code.view cs ≡ map (λ e. resolved scope (tree.view e)) (take i es) → code.list_view cs ≡ resolved_all scope (tree.list_view es)
  list_done cs es i past each = rw (each, take_all i es past) (list_resolved es)

  pub links_done : (cs : List CodeLink) (ls : List Link) (i : ℕ) → length ls ≤ i → map code.link_view cs ≡ map (λ l. resolved_link scope (tree.link_view l)) (take i ls)
      → code.links_of (map code.link_view cs) ≡ resolved_links scope (tree.links_of (map tree.link_view ls))
  links_done cs ls i past each = rw (each, take_all i ls past) (links_resolved ls)

  pub sendings_done : (cs : List CodeSending) (ss : List Sending) (i : ℕ) → length ss ≤ i → map code.sending_view cs ≡ map (λ s. resolved_sending scope (tree.sending_view s)) (take i ss)
      → code.sendings_of (map code.sending_view cs) ≡ resolved_sendings scope (tree.sendings_of (map tree.sending_view ss))
  sendings_done cs ss i past each = rw (each, take_all i ss past) (sendings_resolved ss)

  pub one_part : (pos : Pos) (test : Code) (part : List Code) (from : Expr) (parts : List Expr) (form : ExprForm) → form ≡ ours.If from parts None
      → code.view test ≡ resolved scope (tree.view from) → code.list_view part ≡ resolved_all scope (tree.list_view parts)
      → code.form_view (theirs.If test part None) pos ≡ resolved scope (tree.form_view form pos)
  one_part pos test part from parts form is a b =
      let same : choice pos (code.view test) (code.list_view part) left_out ≡ choice pos (resolved scope (tree.view from)) (resolved_all scope (tree.list_view parts)) left_out = cc in
      rw (shows pos test part None, is, stands pos from parts None) same

  pub two_parts : (pos : Pos) (test : Code) (part rest : List Code) (from : Expr) (parts others : List Expr) (form : ExprForm) → form ≡ ours.If from parts (Some others)
      → code.view test ≡ resolved scope (tree.view from) → code.list_view part ≡ resolved_all scope (tree.list_view parts) → code.list_view rest ≡ resolved_all scope (tree.list_view others)
      → code.form_view (theirs.If test part (Some rest)) pos ≡ resolved scope (tree.form_view form pos)
  two_parts pos test part rest from parts others form is a b d =
      let same : choice pos (code.view test) (code.list_view part) (written (code.list_view rest)) ≡ choice pos (resolved scope (tree.view from)) (resolved_all scope (tree.list_view parts)) (written (resolved_all scope (tree.list_view others))) = cc in
      rw (shows pos test part (Some rest), is, stands pos from parts (Some others)) same
