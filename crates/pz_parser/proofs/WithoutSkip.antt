-- Texts without `skip`.
use Rattle.std.proofs.Common.{◌≡◌, Bool, true, false, List, [], ◌∷◌, ◌++◌, Option, Some, None, if◌then◌else◌, ap}
use Rattle.std.specs.Prelude.{bytes_eq, codes}
use Rattle.pz_syntax.specs.declared.tokens.Symbol.{Symbol}
use Rattle.pz_syntax.specs.declared.tokens.Symbol.TheVariants as s
use Rattle.pz_syntax.specs.declared.tokens.Keyword.{Keyword}
use Rattle.pz_syntax.specs.declared.tokens.Keyword.TheVariants as k
use Rattle.pz_syntax.specs.declared.tokens.TokenKind.TheVariants as kind
use Rattle.pz_syntax.specs.declared.tokens.Mark.{Mark}
use Rattle.pz_syntax.specs.declared.names.Id.{Id}
use Rattle.pz_syntax.specs.declared.exprs.Literal.{Literal}
use Rattle.pz_syntax.specs.declared.exprs.Literal.TheVariants as lit
use Rattle.pz_syntax.specs.declared.classes.VarGroup.{VarGroup}
use Rattle.pz_syntax.specs.declared.classes.Message.{Message}
use Rattle.pz_syntax.specs.declared.clusters.Arg.{Arg}
use Rattle.pz_syntax.specs.declared.clusters.Arg.TheVariants.{Plain as Valued, Negated, Parameter}
use Rattle.pz_syntax.specs.declared.clusters.Given.{Given}
use Rattle.pz_syntax.specs.declared.clusters.Instance.{Instance}
use Rattle.pz_syntax.specs.declared.clusters.ChannelEnd.{ChannelEnd}
use Rattle.pz_syntax.specs.declared.clusters.ChannelEnd.TheVariants.{Inner, Outer}
use Rattle.pz_syntax.specs.declared.clusters.Channel.{Channel}
use Rattle.pz_syntax.specs.declared.clusters.ClusterClass.{ClusterClass}
use Rattle.pz_syntax.specs.declared.clusters.SystemDecl.{SystemDecl}
use Rattle.pz_syntax.specs.Marks.{mark, symbol, keyword, word, head, selector_kind, selector, selector_head, in_parentheses, in_braces, tail_separated, separated, each_text, optional, section, word_text, names_text}
use Rattle.pz_syntax.specs.ExpressionText.{literal_kind}
use Rattle.pz_syntax.specs.ClassText.{group_names_from, group_names, group_text, variables_text, formal_text, locals_text, direction, types_text, message_text, messages_text}
use Rattle.pz_syntax.specs.ModelText.{arg_text, given_text, givens_text, instance_text, end_text, channel_text, cluster_class_text, system_text}
use Rattle.pz_parser.proofs.Cutting.{Plain}

-- ---- marks

abbrev pub Other : Mark → Type 0
Other m = m ≡ keyword k.Skip → ⊥

-- by its kind
pub kind_of : {m n : Mark} → m ≡ n → m.kind ≡ n.kind
kind_of e = ap (λ (m : Mark). m.kind) e

pub other_word : (x : Id) → Other (word x)
other_word x e = absurd (let h : kind.Ident x.name ≡ kind.Key k.Skip = kind_of e in cc)

pub other_head : (x : Id) → Other (head x)
other_head x e = absurd (let h : kind.Ident x.name ≡ kind.Key k.Skip = kind_of e in cc)

pub other_symbol : (x : Symbol) → Other (symbol x)
other_symbol x e = absurd (let h : kind.Sym x ≡ kind.Key k.Skip = kind_of e in cc)

pub other_keyword : (x : Keyword) → (x ≡ k.Skip → ⊥) → Other (keyword x)
other_keyword x other e = other (let h : kind.Key x ≡ kind.Key k.Skip = kind_of e in cc)

pub other_literal : (x : Literal) → Other (mark (literal_kind x))
other_literal x e = by x (kind_of e)
  where
    by : (x : Literal) → literal_kind x ≡ kind.Key k.Skip → ⊥
    by (lit.Int n) h = absurd cc
    by lit.Float h = absurd cc
    by (lit.Char c) h = absurd cc
    by (lit.Str bytes) h = absurd cc
    by lit.True h = absurd cc
    by lit.False h = absurd cc
    by lit.Nil h = absurd cc

pub other_selector : (x : Id) → Other (selector x)
other_selector x e = by (bytes_eq x.name (codes "init")) (kind_of e)
  where
    by : (b : Bool) → (if b then kind.Key k.Init else kind.Ident x.name) ≡ kind.Key k.Skip → ⊥
    by true h = absurd cc
    by false h = absurd cc

pub other_selector_head : (x : Id) → Other (selector_head x)
other_selector_head x e = absurd (let h : true ≡ false = ap (λ (m : Mark). m.head) e in cc)

-- ---- lists

pub nothing_plain : Plain []
nothing_plain [] rest e = absurd cc
nothing_plain (x ∷ p) rest e = absurd cc

pub mark_more : {m : Mark} {ms : List Mark} → Other m → Plain ms → Plain (m ∷ ms)
mark_more o plain [] rest e = o cc
mark_more {ms = ms} o plain (x ∷ p) rest e = let others : ms ≡ p ++ keyword k.Skip ∷ rest = cc in plain p rest others

pub joined_plain : (a b : List Mark) → Plain a → Plain b → Plain (a ++ b)
joined_plain [] b f g = g
joined_plain (x ∷ a) b f g = mark_more (λ e. f [] a (ap (λ z. z ∷ a) e)) (joined_plain a b (λ p rest e. f (x ∷ p) rest (ap (λ l. x ∷ l) e)) g)

pub word_plain : (x : Id) → Plain (word_text x)
word_plain x = mark_more (other_word x) nothing_plain

module _ {A : Type 0} (text_of : A → List Mark) (plain : (x : A) → Plain (text_of x)) where
  tail_plain : (x : Symbol) (xs : List A) → Plain (tail_separated text_of x xs)
  tail_plain x [] = nothing_plain
  tail_plain x (y ∷ ys) = mark_more (other_symbol x) (joined_plain (text_of y) (tail_separated text_of x ys) (plain y) (tail_plain x ys))

  pub separated_plain : (x : Symbol) (xs : List A) → Plain (separated text_of x xs)
  separated_plain x [] = nothing_plain
  separated_plain x (y ∷ ys) = joined_plain (text_of y) (tail_separated text_of x ys) (plain y) (tail_plain x ys)

  pub each_plain : (xs : List A) → Plain (each_text text_of xs)
  each_plain [] = nothing_plain
  each_plain (y ∷ ys) = joined_plain (text_of y) (each_text text_of ys) (plain y) (each_plain ys)

  pub optional_plain : (o : Option A) → Plain (optional text_of o)
  optional_plain None = nothing_plain
  optional_plain (Some x) = plain x

  pub section_plain : (key : Keyword) → Other (keyword key) → (o : Option A) → Plain (section key text_of o)
  section_plain key other None = nothing_plain
  section_plain key other (Some x) = mark_more other (plain x)

pub closed_plain : (inner : List Mark) (x : Symbol) → Plain inner → Plain (inner ++ symbol x ∷ [])
closed_plain inner x plain = joined_plain inner (symbol x ∷ []) plain (mark_more (other_symbol x) nothing_plain)

-- ---- parts of declarations

pub names_plain : (xs : List Id) → Plain (names_text xs)
names_plain xs = separated_plain word_text word_plain s.Comma xs

group_names_plain : (x : Id) (xs : List Id) → Plain (group_names_from x xs)
group_names_plain x [] = mark_more (other_head x) nothing_plain
group_names_plain x (y ∷ ys) = mark_more (other_word x) (mark_more (other_symbol s.Comma) (group_names_plain y ys))

of_group_plain : (xs : List Id) → Plain (group_names xs)
of_group_plain [] = nothing_plain
of_group_plain (x ∷ xs) = group_names_plain x xs

group_plain : (g : VarGroup) → Plain (group_text g)
group_plain g = joined_plain (group_names g.names) (symbol s.Colon ∷ word g.kind ∷ []) (of_group_plain g.names) (mark_more (other_symbol s.Colon) (word_plain g.kind))

pub variables_plain : (gs : List VarGroup) → Plain (variables_text gs)
variables_plain gs = separated_plain group_text group_plain s.Comma gs

pub formal_plain : (gs : List VarGroup) → Plain (formal_text gs)
formal_plain gs = mark_more (other_symbol s.LeftParen) (closed_plain (variables_text gs) s.RightParen (variables_plain gs))

pub locals_plain : (gs : List VarGroup) → Plain (locals_text gs)
locals_plain gs = mark_more (other_symbol s.Bar) (closed_plain (variables_text gs) s.Bar (variables_plain gs))

types_plain : (xs : List Id) → Plain (types_text xs)
types_plain xs = mark_more (other_symbol s.LeftParen) (closed_plain (names_text xs) s.RightParen (names_plain xs))

message_plain : (m : Message) → Plain (message_text m)
message_plain m = mark_more (other_word m.port) (mark_more (other_symbol (direction m.out)) (mark_more (other_word m.name) (optional_plain types_text types_plain m.types)))

pub messages_plain : (ms : List Message) → Plain (messages_text ms)
messages_plain ms = separated_plain message_text message_plain s.Comma ms

-- ---- clusters and the system

arg_plain : (a : Arg) → Plain (arg_text a)
arg_plain (Valued x pos) = mark_more (other_literal x) nothing_plain
arg_plain (Negated n pos) = mark_more (other_symbol s.Minus) (mark_more (other_literal (lit.Int n)) nothing_plain)
arg_plain (Parameter x) = word_plain x

given_plain : (g : Given) → Plain (given_text g)
given_plain g = mark_more (other_word g.name) (mark_more (other_symbol s.Assign) (arg_plain g.arg))

givens_plain : (gs : List Given) → Plain (givens_text gs)
givens_plain gs = mark_more (other_symbol s.LeftParen) (closed_plain (separated given_text s.Comma gs) s.RightParen (separated_plain given_text given_plain s.Comma gs))

instance_plain : (i : Instance) → Plain (instance_text i)
instance_plain i = mark_more (other_head i.name) (mark_more (other_symbol s.Colon) (mark_more (other_word i.class) (optional_plain givens_text givens_plain i.given)))

end_plain : (e : ChannelEnd) → Plain (end_text e)
end_plain (Inner part port) = mark_more (other_word part) (mark_more (other_symbol s.Dot) (word_plain port))
end_plain (Outer port) = word_plain port

channel_plain : (c : Channel) → Plain (channel_text c)
channel_plain c = mark_more (other_symbol s.LeftBrace) (closed_plain (separated end_text s.Comma c.ends) s.RightBrace (separated_plain end_text end_plain s.Comma c.ends))

instances_plain : (o : Option (List Instance)) → Plain (section k.Instances (each_text instance_text) o)
instances_plain o = section_plain (each_text instance_text) (each_plain instance_text instance_plain) k.Instances (other_keyword k.Instances (λ e. absurd cc)) o

channels_plain : (o : Option (List Channel)) → Plain (section k.Channels (each_text channel_text) o)
channels_plain o = section_plain (each_text channel_text) (each_plain channel_text channel_plain) k.Channels (other_keyword k.Channels (λ e. absurd cc)) o

instances_and_channels_plain : (is : Option (List Instance)) (cs : Option (List Channel)) → Plain (section k.Instances (each_text instance_text) is ++ section k.Channels (each_text channel_text) cs)
instances_and_channels_plain is cs = joined_plain (section k.Instances (each_text instance_text) is) (section k.Channels (each_text channel_text) cs) (instances_plain is) (channels_plain cs)

pub parameters_plain : (o : Option (List VarGroup)) → Plain (optional formal_text o)
parameters_plain o = optional_plain formal_text formal_plain o

pub ports_plain : (o : Option (List Id)) → Plain (section k.Ports names_text o)
ports_plain o = section_plain names_text names_plain k.Ports (other_keyword k.Ports (λ e. absurd cc)) o

pub cluster_class_plain : (c : ClusterClass) → Plain (cluster_class_text c)
cluster_class_plain c =
    let parts = section k.Instances (each_text instance_text) c.instances ++ section k.Channels (each_text channel_text) c.channels in
    mark_more (other_keyword k.Cluster (λ e. absurd cc)) (mark_more (other_keyword k.Class (λ e. absurd cc)) (mark_more (other_word c.name) (joined_plain (optional formal_text c.parameters) (section k.Ports names_text c.ports ++ parts) (parameters_plain c.parameters) (joined_plain (section k.Ports names_text c.ports) parts (ports_plain c.ports) (instances_and_channels_plain c.instances c.channels)))))

pub system_plain : (d : SystemDecl) → Plain (system_text d)
system_plain d = mark_more (other_keyword k.System (λ e. absurd cc)) (instances_and_channels_plain d.instances d.channels)
