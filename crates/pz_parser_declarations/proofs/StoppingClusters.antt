-- Where the rules of instances, channels, cluster classes and the system stop.
use Rattle.std.proofs.Common.{◌≡◌, ℕ, ℤ, Bool, true, false, cond, List, [], ◌∷◌, ◌++◌, Option, Some, None, Ok, refl, sym, arith}
use Rattle.std.specs.Prelude.{⊤, pos}
use Rattle.pz_syntax.specs.declared.tokens.Pos.{Pos}
use Rattle.pz_syntax.specs.declared.tokens.Symbol.TheVariants as s
use Rattle.pz_syntax.specs.declared.tokens.Keyword.TheVariants as k
use Rattle.pz_syntax.specs.declared.tokens.TokenKind.TheVariants as kind
use Rattle.pz_syntax.specs.declared.names.Id.{Id}
use Rattle.pz_syntax.specs.declared.exprs.Literal.{Literal}
use Rattle.pz_syntax.specs.declared.exprs.Literal.TheVariants as lit
use Rattle.pz_syntax.specs.declared.clusters.Arg.{Arg}
use Rattle.pz_syntax.specs.declared.clusters.Arg.TheVariants.{Plain, Negated, Parameter}
use Rattle.pz_syntax.specs.declared.clusters.Given.{Given}
use Rattle.pz_syntax.specs.declared.clusters.Instance.{Instance}
use Rattle.pz_syntax.specs.declared.clusters.ChannelEnd.{ChannelEnd}
use Rattle.pz_syntax.specs.declared.clusters.ChannelEnd.TheVariants.{Inner, Outer}
use Rattle.pz_syntax.specs.declared.clusters.Channel.{Channel}
use Rattle.pz_syntax.specs.declared.clusters.ClusterClass.{ClusterClass}
use Rattle.pz_syntax.specs.declared.clusters.SystemDecl.{SystemDecl}
use Rattle.pz_syntax.specs.Marks.{mark, symbol, head, separated, optional as optional_text}
use Rattle.pz_syntax.specs.ExpressionErasure.{origin}
use Rattle.pz_syntax.specs.ExpressionText.{literal_kind}
use Rattle.pz_syntax.specs.ModelText.{arg_text, given_text, givens_text, instance_text, end_text, channel_text, cluster_class_text, system_text}
use Rattle.pz_syntax.specs.ModelForm.{IsNonempty, IsChannel, IsClusterClass, IsSystem}
use Rattle.pz_parser_cursor.specs.declared.ahead.Next.{Next}
use Rattle.pz_parser_cursor.specs.declared.ahead.Next.TheVariants as n
use Rattle.pz_parser_cursor.specs.devices.LookAhead.{next}
use Rattle.pz_parser_cursor.specs.devices.Input.{Tokens, marks, after, identifier, literal, number, sees}
use Rattle.pz_parser_cursor.specs.devices.Device.{Parser, ◌>>=◌, ◌>>◌, ◌<$>◌, pure, refuse, skip, take_literal, eat, and_then, past, expect}
use Rattle.pz_parser_cursor.specs.devices.Lists.{list_of}
use Rattle.pz_parser_cursor.specs.devices.Names.{word}
use Rattle.pz_parser_cursor.proofs.Steps.{sees_is}
use Rattle.pz_parser_cursor.proofs.Words.{head_is, literal_is, int_literal_is, number_is}
use Rattle.pz_parser_cursor.proofs.Joined.{joined_is, Filled}
use Rattle.pz_parser_declarations.specs.devices.Clusters as spec
use Rattle.pz_parser_cursor.proofs.Stopping.{Form, token_form, both, ExactAt, Exact, into, bind_at, bind_exact, pure_exact, mapped, refuse_exact, Peeks, taking, take_then, if_at, dispatch, placed, as_equal}
use Rattle.pz_parser_cursor.proofs.StoppingLists.{identifier_peeks, sees_peeks, some_id, name_form, word_form, optional_form, section_form, each_form, expect_exact, word_exact, skip_at, take_word_at, optional_exact, section_exact, or_none_exact, list_exact, each_exact}
use Rattle.pz_parser_cursor.proofs.StoppingNames.{optional_formal_exact, ports_exact}

abbrev some_arg : Arg
some_arg = Plain lit.Nil origin

abbrev arg_form : Form
arg_form = record { Shape = Arg; text = arg_text; Fits = λ n x. ⊤; some = λ n lt. (some_arg, tt) }

abbrev literal_form : Form
literal_form = record { Shape = Literal; text = λ x. mark (literal_kind x) ∷ []; Fits = λ n x. ⊤; some = λ n lt. (lit.Nil, tt) }

abbrev number_form : Form
number_form = record { Shape = ℤ; text = λ x. mark (kind.Int x) ∷ []; Fits = λ n x. ⊤; some = λ n lt. (pos 0, tt) }

abbrev given_form : Form
given_form = record { Shape = Given; text = given_text; Fits = λ n x. ⊤; some = λ n lt. (record { name = some_id; arg = some_arg }, tt) }

abbrev givens_form : Form
givens_form = record { Shape = List Given; text = separated given_text s.Comma; Fits = λ n x. ⊤; some = λ n lt. ([], tt) }

abbrev bracketed_form : Form
bracketed_form = record { Shape = List Given; text = givens_text; Fits = λ n x. ⊤; some = λ n lt. ([], tt) }

abbrev instance_form : Form
instance_form = record { Shape = Instance; text = instance_text; Fits = λ n x. ⊤; some = λ n lt. (record { name = some_id; class = some_id; given = None }, tt) }

abbrev end_form : Form
end_form = record { Shape = ChannelEnd; text = end_text; Fits = λ n x. ⊤; some = λ n lt. (Outer some_id, tt) }

-- a dot and the name behind it, or nothing
abbrev dotted_form : Form
dotted_form = record { Shape = Option Id; text = optional_text (λ x. symbol s.Dot ∷ (word_form.text x)); Fits = λ n x. ⊤; some = λ n lt. (None, tt) }

abbrev channel_form : Form
channel_form = record { Shape = Channel; text = channel_text; Fits = λ n. IsChannel; some = λ n lt. (record { pos = origin; ends = Outer some_id ∷ [] }, tt) }

abbrev pub cluster_class_form : Form
cluster_class_form = record { Shape = ClusterClass; text = cluster_class_text; Fits = λ n. IsClusterClass; some = λ n lt. (record { name = some_id; parameters = None; ports = None; instances = None; channels = None }, (tt, tt)) }

abbrev pub system_form : Form
system_form = record { Shape = SystemDecl; text = system_text; Fits = λ n. IsSystem; some = λ n lt. (record { pos = origin; instances = None; channels = None }, tt) }

literal_peeks : Peeks literal
unfolding literal
literal_peeks t u w = refl

number_peeks : Peeks number
unfolding number
number_peeks t u w = refl

filled_some : (xs : List ChannelEnd) → Filled (λ x. ⊤) xs → IsNonempty xs
filled_some [] f = absurd f
filled_some (x ∷ xs) f = tt

abbrev end_of : Id → Option Id → ChannelEnd
end_of x None = Outer x
end_of x (Some y) = Inner x y

end_is : (x : Id) (o : Option Id) → end_text (end_of x o) ≡ word_form.text x ++ dotted_form.text o
end_is x None = refl
end_is x (Some y) = refl

module _ (W : Type 0) (b : ℕ) where
  -- ---- instances

  constant_at : (i : Tokens) → marks i ≡ mark (literal_kind (literal i)) ∷ marks (after i) → ExactAt W b spec.constant spec.constant arg_form i
  unfolding spec.constant
  constant_at i shows =
      let rest : Pos → Parser Arg = λ at. take_literal >>= (λ x. pure (Plain x at)) in
      let c = placed W b rest rest arg_form i (λ at. into W b (λ x. Plain x origin) (λ x. refl) (λ n lt x f. tt) (mapped W b (λ x. Plain x at) (taking W b literal literal_form (literal i) i literal_peeks shows (λ n. tt)))) in
      record { pass = c.pass; same = c.same }

  number_exact : Exact W b spec.expect_number spec.expect_number number_form
  unfolding spec.expect_number
  number_exact i =
      let c = if_at W b (sees n.Int) (λ j. Ok (number j, after j)) (λ j. Ok (number j, after j)) refuse refuse number_form i (sees_peeks n.Int) (λ h. taking W b number number_form (number i) i number_peeks (number_is i (sees_is n.Int i h)) (λ n. tt)) (λ h. refuse_exact W b number_form i) in
      record { pass = c.pass; same = c.same }

  negated_at : (i : Tokens) → next i ≡ n.Minus → ExactAt W b spec.negated spec.negated arg_form i
  unfolding spec.negated
  negated_at i h =
      let rest : Pos → Parser Arg = λ at. skip >>= (λ u. spec.expect_number >>= (λ x. pure (Negated x at))) in
      let c = placed W b rest rest arg_form i (λ at. into W b (λ v. Negated v.1 origin) (λ v. refl) (λ n lt v f. tt) (bind_at W b (skip_at W b n.Minus (kind.Sym s.Minus) i refl h) (λ u j. mapped W b (λ x. Negated x at) (number_exact j)))) in
      record { pass = c.pass; same = c.same }

  parameter_at : (i : Tokens) → next i ≡ n.Word → ExactAt W b spec.parameter spec.parameter arg_form i
  unfolding spec.parameter
  parameter_at i h = let c = into W b {F = word_form} {G = arg_form} (λ x. Parameter x) (λ x. refl) (λ n lt x f. tt) (mapped W b (λ x. Parameter x) (take_word_at W b i h)) in record { pass = c.pass; same = c.same }

  arg_exact : Exact W b spec.arg spec.arg arg_form
  unfolding spec.arg
  arg_exact = dispatch W b spec.arg_by spec.arg_by arg_form at
    where
      at : (x : Next) (i : Tokens) → next i ≡ x → ExactAt W b (spec.arg_by x) (spec.arg_by x) arg_form i
      at n.Int i h = constant_at i (int_literal_is i h)
      at n.Literal i h = constant_at i (literal_is i h)
      at n.Minus i h = negated_at i h
      at n.Word i h = parameter_at i h
      at _ i h = refuse_exact W b arg_form i

  given_exact : Exact W b spec.given spec.given given_form
  unfolding spec.given
  given_exact i = into W b (λ v. record { name = v.0; arg = v.1.1 }) (λ v. refl) (λ n lt v f. tt) (bind_at W b (word_exact W b i) (λ x. bind_exact W b (expect_exact W b n.Assign (kind.Sym s.Assign) refl) (λ u j. mapped W b (λ a. record { name = x; arg = a }) (arg_exact j))))

  givens_exact : Exact W b spec.givens spec.givens givens_form
  unfolding spec.givens
  givens_exact = or_none_exact W b (list_of spec.given n.Comma) (list_of spec.given n.Comma) givens_form (sees n.Word) [] refl (λ n lt. tt) (sees_peeks n.Word) (λ i h. into W b (λ xs. xs) (λ xs. sym (joined_is given_text s.Comma xs)) (λ n lt x f. tt) (list_exact b given_form n.Comma (kind.Sym s.Comma) refl W spec.given spec.given given_exact i))

  bracketed_exact : Exact W b spec.bracketed_givens spec.bracketed_givens bracketed_form
  unfolding spec.bracketed_givens
  bracketed_exact i = into W b (λ v. v.1.0) (λ v. refl) (λ n lt v f. tt) (bind_at W b (expect_exact W b n.LeftParen (kind.Sym s.LeftParen) refl i) (λ u. bind_exact W b givens_exact (λ gs j. mapped W b (λ v. gs) (expect_exact W b n.RightParen (kind.Sym s.RightParen) refl j))))

  optional_givens_exact : Exact W b spec.optional_givens spec.optional_givens (optional_form bracketed_form)
  unfolding spec.optional_givens
  optional_givens_exact = optional_exact W b spec.bracketed_givens spec.bracketed_givens bracketed_form (sees n.LeftParen) (sees_peeks n.LeftParen) (λ i h. bracketed_exact i)

  instance_at : (i : Tokens) → sees n.Head i ≡ true → ExactAt W b spec.one_instance spec.one_instance instance_form i
  unfolding spec.one_instance
  instance_at i h =
      let rest : Id → Parser Instance = λ x. expect n.Colon >>= (λ u. word >>= (λ c. spec.optional_givens >>= (λ gs. pure (record { name = x; class = c; given = gs })))) in
      let c = into W b (λ v. record { name = v.0; class = v.1.1.0; given = v.1.1.1 }) (λ v. refl) (λ n lt v f. tt)
      (take_then W b identifier rest rest (name_form head) (both (token_form (symbol s.Colon)) (both word_form (optional_form bracketed_form))) (identifier i) i identifier_peeks (head_is i (sees_is n.Head i h)) (λ n. tt)
      (λ x. bind_at W b (expect_exact W b n.Colon (kind.Sym s.Colon) refl (after i)) (λ u. bind_exact W b (word_exact W b) (λ c j. mapped W b (λ gs. record { name = x; class = c; given = gs }) (optional_givens_exact j))))) in
      record { pass = c.pass; same = c.same }

  instances_exact : Exact W b spec.instances spec.instances (each_form instance_form)
  unfolding spec.instances
  instances_exact = each_exact b instance_form (λ x. omega arith) (sees n.Head) (sees_peeks n.Head) W spec.one_instance spec.one_instance instance_at

  -- ---- channels

  abbrev tail_by : Id → Bool → Parser ChannelEnd
  tail_by x dotted = cond dotted (Inner x <$> word) (pure (Outer x))

  eaten : (x : Id) (c : Bool) (i : Tokens) → and_then (Ok (c, cond c (after i) i)) (tail_by x) ≡ cond c ((skip >> (Inner x <$> word)) i) (Ok (Outer x, i))
  eaten x true i = refl
  eaten x false i = refl

  tail_is : (x : Id) (i : Tokens) → (eat n.Dot >>= tail_by x) i ≡ cond (sees n.Dot i) ((skip >> (Inner x <$> word)) i) (Ok (Outer x, i))
  unfolding past
  tail_is x i = eaten x (sees n.Dot i) i

  tail_exact : (x : Id) → Exact W b (eat n.Dot >>= tail_by x) (eat n.Dot >>= tail_by x) dotted_form
  tail_exact x i =
      let p : Parser ChannelEnd = λ j. cond (sees n.Dot j) ((skip >> (Inner x <$> word)) j) (Ok (Outer x, j)) in
      as_equal W b p p (eat n.Dot >>= tail_by x) (eat n.Dot >>= tail_by x) dotted_form i (tail_is x) (tail_is x)
      (if_at W b (sees n.Dot) (skip >> (Inner x <$> word)) (skip >> (Inner x <$> word)) (pure (Outer x)) (pure (Outer x)) dotted_form i (sees_peeks n.Dot)
      (λ h. into W b (λ v. Some v.1) (λ v. refl) (λ n lt v f. tt) (bind_at W b (skip_at W b n.Dot (kind.Sym s.Dot) i refl (sees_is n.Dot i h)) (λ u j. mapped W b (λ y. Inner x y) (word_exact W b j))))
      (λ h. into W b (λ v. None) (λ v. refl) (λ n lt v f. tt) (pure_exact W b (Outer x) i)))

  end_exact : Exact W b spec.one_end spec.one_end end_form
  unfolding spec.one_end
  end_exact i =
      let c = into W b {F = both word_form dotted_form} {G = end_form} (λ v. end_of v.0 v.1) (λ v. end_is v.0 v.1) (λ n lt v f. tt) (bind_at W b (word_exact W b i) tail_exact) in
      record { pass = c.pass; same = c.same }

  channel_at : (i : Tokens) → sees n.LeftBrace i ≡ true → ExactAt W b spec.one_channel spec.one_channel channel_form i
  unfolding spec.one_channel
  channel_at i h =
      let rest : Pos → Parser Channel = λ at. skip >>= (λ u. list_of spec.one_end n.Comma >>= (λ es. expect n.RightBrace >>= (λ v. pure (record { pos = at; ends = es })))) in
      let ends : Exact W b (list_of spec.one_end n.Comma) (list_of spec.one_end n.Comma) (ends_form) = λ j. into W b (λ xs. xs) (λ xs. sym (joined_is end_text s.Comma xs)) (λ n lt x f. filled_some x f) (list_exact b end_form n.Comma (kind.Sym s.Comma) refl W spec.one_end spec.one_end end_exact j) in
      let c = placed W b rest rest channel_form i (λ at. into W b (λ v. record { pos = origin; ends = v.1.0 }) (λ v. refl) (λ n lt v f. f.1.0) (bind_at W b (skip_at W b n.LeftBrace (kind.Sym s.LeftBrace) i refl (sees_is n.LeftBrace i h)) (λ u. bind_exact W b ends (λ es j. mapped W b (λ v. record { pos = at; ends = es }) (expect_exact W b n.RightBrace (kind.Sym s.RightBrace) refl j))))) in
      record { pass = c.pass; same = c.same }
    where
      ends_form : Form
      ends_form = record { Shape = List ChannelEnd; text = separated end_text s.Comma; Fits = λ n. IsNonempty; some = λ n lt. (Outer some_id ∷ [], tt) }

  channels_exact : Exact W b spec.channels spec.channels (each_form channel_form)
  unfolding spec.channels
  channels_exact = each_exact b channel_form (λ x. omega arith) (sees n.LeftBrace) (sees_peeks n.LeftBrace) W spec.one_channel spec.one_channel channel_at

  -- ---- clusters and the system

  instances_section_exact : Exact W b spec.instances_section spec.instances_section (section_form k.Instances (each_form instance_form))
  unfolding spec.instances_section
  instances_section_exact = section_exact W b spec.instances spec.instances (each_form instance_form) n.Instances k.Instances refl instances_exact

  channels_section_exact : Exact W b spec.channels_section spec.channels_section (section_form k.Channels (each_form channel_form))
  unfolding spec.channels_section
  channels_section_exact = section_exact W b spec.channels spec.channels (each_form channel_form) n.Channels k.Channels refl channels_exact

  pub cluster_class_exact : Exact W b spec.cluster_class spec.cluster_class cluster_class_form
  unfolding spec.cluster_class
  cluster_class_exact i = into W b (λ v. record { name = v.1.1.0; parameters = v.1.1.1.0; ports = v.1.1.1.1.0; instances = v.1.1.1.1.1.0; channels = v.1.1.1.1.1.1 }) (λ v. refl) (λ n lt v f. (f.1.1.1.0, f.1.1.1.1.1.1))
      (bind_at W b (expect_exact W b n.Cluster (kind.Key k.Cluster) refl i) (λ u. bind_exact W b (expect_exact W b n.Class (kind.Key k.Class) refl) (λ v. bind_exact W b (word_exact W b) (λ x. bind_exact W b (optional_formal_exact W b) (λ parameters. bind_exact W b (ports_exact W b) (λ ports. bind_exact W b instances_section_exact (λ is j. mapped W b (λ cs. record { name = x; parameters = parameters; ports = ports; instances = is; channels = cs }) (channels_section_exact j))))))))

  pub system_exact : Exact W b spec.system spec.system system_form
  unfolding spec.system
  system_exact i =
      let rest : Pos → Parser SystemDecl = λ at. expect n.System >>= (λ u. spec.instances_section >>= (λ is. spec.channels_section >>= (λ cs. pure (record { pos = at; instances = is; channels = cs })))) in
      let c = placed W b rest rest system_form i (λ at. into W b (λ v. record { pos = origin; instances = v.1.0; channels = v.1.1 }) (λ v. refl) (λ n lt v f. f.1.1) (bind_at W b (expect_exact W b n.System (kind.Key k.System) refl i) (λ u. bind_exact W b instances_section_exact (λ is j. mapped W b (λ cs. record { pos = at; instances = is; channels = cs }) (channels_section_exact j))))) in
      record { pass = c.pass; same = c.same }
