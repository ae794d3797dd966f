-- Where the rules for names and variables stop.
use Rattle.std.proofs.Common.{◌≡◌, ℕ, zero, suc, ◌≤◌, ◌<◌, List, [], ◌∷◌, ◌++◌, length, refl, sym, subst, arith, length-append}
use Rattle.std.specs.Prelude.{⊤}
use Rattle.pz_syntax.specs.declared.tokens.Symbol.TheVariants as s
use Rattle.pz_syntax.specs.declared.tokens.Keyword.TheVariants as k
use Rattle.pz_syntax.specs.declared.tokens.TokenKind.TheVariants as kind
use Rattle.pz_syntax.specs.declared.names.Id.{Id}
use Rattle.pz_syntax.specs.declared.classes.VarGroup.{VarGroup}
use Rattle.pz_syntax.specs.Marks.{symbol, head, word_text, names_text}
use Rattle.pz_syntax.specs.ClassText.{group_names_from, group_text, variables_text, formal_text, locals_text}
use Rattle.pz_syntax.specs.ModelForm.{IsGroup, AreVariables, AreLocals}
use Rattle.pz_parser_cursor.specs.declared.ahead.Next.{Next}
use Rattle.pz_parser_cursor.specs.declared.ahead.Next.TheVariants as n
use Rattle.pz_parser_cursor.specs.declared.refusal.Refusal.TheVariants.{Syntax}
use Rattle.pz_parser_cursor.specs.devices.LookAhead.{next, next_by}
use Rattle.pz_parser_cursor.specs.devices.Input.{Tokens, after, identifier, name, name_by, position, sees}
use Rattle.pz_parser_cursor.specs.devices.Device.{Parser, ◌>>=◌, pure, take_id, expect}
use Rattle.pz_parser_cursor.specs.devices.Lists.{turns}
use Rattle.pz_parser_cursor.specs.devices.Names as spec
use Rattle.pz_parser_cursor.proofs.Words.{head_is}
use Rattle.pz_parser_cursor.proofs.Joined.{joined_is, Filled}
use Rattle.pz_parser_cursor.proofs.Stopping.{Form, token_form, both, Pass, stopped, Kept, beyond, alike, failing, ExactAt, Exact, low, refused_here, bind_pass, pass_into, pass_mapped, kept_bind, same_all, into, bind_at, bind_exact, mapped, Peeks, taking}
use Rattle.pz_parser_cursor.proofs.StoppingLists.{identifier_peeks, sees_peeks, some_id, name_form, word_form, optional_form, section_form, expect_exact, word_exact, take_word_at, optional_exact, section_exact, or_none_exact, list_exact, kept_le, low_pure}

abbrev pub names_form : Form
names_form = record { Shape = List Id; text = names_text; Fits = λ n x. ⊤; some = λ n lt. ([], tt) }

abbrev pub group_names_form : Form
group_names_form = record { Shape = Id × List Id; text = λ x. group_names_from x.0 x.1; Fits = λ n x. ⊤; some = λ n lt. ((some_id, []), tt) }

abbrev pub some_group : VarGroup
some_group = record { names = some_id ∷ []; kind = some_id }

abbrev pub group_form : Form
group_form = record { Shape = VarGroup; text = group_text; Fits = λ n. IsGroup; some = λ n lt. (some_group, tt) }

-- one group or more
abbrev pub groups_form : Form
groups_form = record { Shape = List VarGroup; text = variables_text; Fits = λ n. Filled IsGroup; some = λ n lt. (some_group ∷ [], (tt, tt)) }

abbrev pub variables_form : Form
variables_form = record { Shape = List VarGroup; text = variables_text; Fits = λ n. AreVariables; some = λ n lt. ([], tt) }

abbrev pub formal_form : Form
formal_form = record { Shape = List VarGroup; text = formal_text; Fits = λ n. AreVariables; some = λ n lt. ([], tt) }

abbrev pub locals_form : Form
locals_form = record { Shape = List VarGroup; text = locals_text; Fits = λ n. AreLocals; some = λ n lt. (some_group ∷ [], (tt, (tt, tt))) }

filled_each : (xs : List VarGroup) → Filled IsGroup xs → AreVariables xs
filled_each [] f = absurd f
filled_each (x ∷ xs) f = f

filled_locals : (xs : List VarGroup) → Filled IsGroup xs → AreLocals xs
filled_locals [] f = absurd f
filled_locals (x ∷ xs) f = (tt, f)

module _ (W : Type 0) (b : ℕ) where
  names_exact : Exact W b spec.names spec.names names_form
  unfolding spec.names
  names_exact i = into W b (λ xs. xs) (λ xs. sym (joined_is word_text s.Comma xs)) (λ n lt x f. tt) (list_exact b word_form n.Comma (kind.Sym s.Comma) refl W spec.word spec.word (word_exact W b) i)

  pub optional_names_exact : Exact W b spec.optional_names spec.optional_names names_form
  unfolding spec.optional_names
  optional_names_exact = or_none_exact W b spec.names spec.names names_form (sees n.Word) [] refl (λ n lt. tt) (sees_peeks n.Word) (λ i h. names_exact i)

  -- ---- the names of a group

  head_at : (i : Tokens) → next i ≡ n.Head → ExactAt W b take_id take_id (name_form head) i
  head_at i h = taking W b identifier (name_form head) (identifier i) i identifier_peeks (head_is i h) (λ n. tt)

  comma_exact : Exact W b (expect n.Comma) (expect n.Comma) (token_form (symbol s.Comma))
  comma_exact = expect_exact W b n.Comma (kind.Sym s.Comma) refl

  of_group_pass : (turn : ℕ) (i : Tokens) → Pass b group_names_form i (spec.names_of_group turn i)
  unfolding spec.names_of_group
  of_group_pass zero i = stopped (Syntax (length i)) (refused_here b group_names_form i)
  of_group_pass (suc turn) i = by (λ j. of_group_pass turn j) (next i) refl
    where
      by : ((j : Tokens) → Pass b group_names_form j (spec.names_of_group turn j)) → (x : Next) → next i ≡ x → Pass b group_names_form i (spec.names_by x (spec.names_of_group turn) i)
      by again n.Word h =
          let more : Id → Parser (List Id) = λ x. spec.names_of_group turn >>= (λ xs. pure (x ∷ xs)) in
          let rest : Id → Parser (List Id) = λ x. expect n.Comma >>= (λ u. more x) in
          pass_into b (both word_form (both (token_form (symbol s.Comma)) group_names_form)) group_names_form i (spec.names_by n.Word (spec.names_of_group turn) i) (λ v. (v.0, v.1.1.0 ∷ v.1.1.1)) (λ v. refl) (λ n lt v f. tt)
          (bind_pass b word_form (both (token_form (symbol s.Comma)) group_names_form) i (take_id i) rest (take_word_at W b i h).pass (λ y. bind_pass b (token_form (symbol s.Comma)) group_names_form y.1 (expect n.Comma y.1) (λ u. more y.0) (comma_exact y.1).pass (λ z. pass_mapped b group_names_form z.1 (spec.names_of_group turn z.1) (λ xs. y.0 ∷ xs) (again z.1))))
      by again n.Head h = pass_into b (name_form head) group_names_form i (spec.names_by n.Head (spec.names_of_group turn) i) (λ x. (x, [])) (λ x. refl) (λ n lt x f. tt) (mapped W b (λ x. x ∷ []) (head_at i h)).pass
      by again _ h = stopped (Syntax (length i)) (refused_here b group_names_form i)

  kept_names : 0 < b → (turn more : ℕ) (a u w : Tokens) → length (a ++ u) ≤ turn → length (a ++ w) ≤ more → Kept W u w (spec.names_of_group turn (a ++ u)) (spec.names_of_group more (a ++ w))
  unfolding spec.names_of_group next after identifier name position
  kept_names lt turn more [] u w le ge = beyond (spec.names_of_group turn u) (spec.names_of_group more w) (low (of_group_pass turn u))
  kept_names lt zero more (t ∷ a) u w le ge = absurd (omega (arith, le))
  kept_names lt (suc turn) zero (t ∷ a) u w le ge = absurd (omega (arith, ge))
  kept_names lt (suc turn) (suc more) (t ∷ a) u w le ge = by (λ c p q. kept_names lt turn more c u w p q) (next_by t.mark.head t.mark.kind)
    where
      by : ((c : Tokens) → length (c ++ u) ≤ turn → length (c ++ w) ≤ more → Kept W u w (spec.names_of_group turn (c ++ u)) (spec.names_of_group more (c ++ w))) → (x : Next) → Kept W u w (spec.names_by x (spec.names_of_group turn) (t ∷ (a ++ u))) (spec.names_by x (spec.names_of_group more) (t ∷ (a ++ w)))
      by again n.Word =
          let x : Id = record { name = name_by t.mark.kind; pos = t.pos } in
          kept_bind W u w (expect n.Comma (a ++ u)) (expect n.Comma (a ++ w)) (λ y. spec.names_of_group turn >>= (λ xs. pure (x ∷ xs))) (λ y. spec.names_of_group more >>= (λ xs. pure (x ∷ xs))) (same_all lt a u w (comma_exact (a ++ u)))
          (λ y. low (pass_mapped b group_names_form y.1 (spec.names_of_group turn y.1) (λ xs. x ∷ xs) (of_group_pass turn y.1)))
          (λ y c r.
          let k = kept_le (length (a ++ u)) (expect n.Comma (a ++ u)) (y, c ++ u) (low (comma_exact (a ++ u)).pass) r in
          let fits : length (c ++ u) ≤ turn = omega (arith, le, k) in
          let less : length (c ++ w) ≤ more = omega (arith, ge, k, length-append c u, length-append a u, length-append c w, length-append a w) in
          kept_bind W u w (spec.names_of_group turn (c ++ u)) (spec.names_of_group more (c ++ w)) (λ xs. pure (x ∷ xs)) (λ xs. pure (x ∷ xs)) (again c fits less) (λ z. low_pure (x ∷ z.0) z.1) (λ xs d r. alike (x ∷ xs) d))
      by again n.Head = alike (record { name = name_by t.mark.kind; pos = t.pos } ∷ []) a
      by again _ = failing (Syntax (length (t ∷ (a ++ u)))) (Syntax (length (t ∷ (a ++ w))))

  group_names_exact : Exact W b spec.group_names spec.group_names group_names_form
  unfolding spec.group_names
  group_names_exact i = record {
    pass = of_group_pass (turns i) i;
    same = λ lt t a u w h. subst (λ k. Kept W u w (spec.names_of_group (turns k) k) (spec.names_of_group (turns (t ∷ (a ++ w))) (t ∷ (a ++ w)))) (sym h) (kept_names lt (length (t ∷ (a ++ u))) (length (t ∷ (a ++ w))) (t ∷ a) u w (omega arith) (omega arith));
  }

  group_exact : Exact W b spec.group spec.group group_form
  unfolding spec.group
  group_exact i = into W b (λ v. record { names = v.0.0 ∷ v.0.1; kind = v.1.1 }) (λ v. refl) (λ n lt v f. tt) (bind_at W b (group_names_exact i) (λ xs. bind_exact W b (expect_exact W b n.Colon (kind.Sym s.Colon) refl) (λ u j. mapped W b (λ x. record { names = xs; kind = x }) (word_exact W b j))))

  -- ---- variables

  pub groups_exact : Exact W b spec.variables spec.variables groups_form
  unfolding spec.variables
  groups_exact i = into W b (λ xs. xs) (λ xs. sym (joined_is group_text s.Comma xs)) (λ n lt x f. f) (list_exact b group_form n.Comma (kind.Sym s.Comma) refl W spec.group spec.group group_exact i)

  begins_peeks : Peeks spec.begins_group
  unfolding spec.begins_group
  begins_peeks t u w = rw (sees_peeks n.Word t u w, sees_peeks n.Head t u w) refl

  pub optional_variables_exact : Exact W b spec.optional_variables spec.optional_variables variables_form
  unfolding spec.optional_variables
  optional_variables_exact = or_none_exact W b spec.variables spec.variables variables_form spec.begins_group [] refl (λ n lt. tt) begins_peeks (λ i h. into W b (λ xs. xs) (λ xs. refl) (λ n lt x f. filled_each x f) (groups_exact i))

  pub formal_exact : Exact W b spec.formal spec.formal formal_form
  unfolding spec.formal
  formal_exact i = into W b (λ v. v.1.0) (λ v. refl) (λ n lt v f. f.1.0) (bind_at W b (expect_exact W b n.LeftParen (kind.Sym s.LeftParen) refl i) (λ u. bind_exact W b optional_variables_exact (λ gs j. mapped W b (λ v. gs) (expect_exact W b n.RightParen (kind.Sym s.RightParen) refl j))))

  pub optional_formal_exact : Exact W b spec.optional_formal spec.optional_formal (optional_form formal_form)
  unfolding spec.optional_formal
  optional_formal_exact = optional_exact W b spec.formal spec.formal formal_form (sees n.LeftParen) (sees_peeks n.LeftParen) (λ i h. formal_exact i)

  locals_exact : Exact W b spec.locals spec.locals locals_form
  unfolding spec.locals
  locals_exact i = into W b (λ v. v.1.0) (λ v. refl) (λ n lt v f. filled_locals v.1.0 f.1.0) (bind_at W b (expect_exact W b n.Bar (kind.Sym s.Bar) refl i) (λ u. bind_exact W b groups_exact (λ gs j. mapped W b (λ v. gs) (expect_exact W b n.Bar (kind.Sym s.Bar) refl j))))

  pub optional_locals_exact : Exact W b spec.optional_locals spec.optional_locals (optional_form locals_form)
  unfolding spec.optional_locals
  optional_locals_exact = optional_exact W b spec.locals spec.locals locals_form (sees n.Bar) (sees_peeks n.Bar) (λ i h. locals_exact i)

  pub ports_exact : Exact W b spec.ports spec.ports (section_form k.Ports names_form)
  unfolding spec.ports
  ports_exact = section_exact W b spec.optional_names spec.optional_names names_form n.Ports k.Ports refl optional_names_exact
