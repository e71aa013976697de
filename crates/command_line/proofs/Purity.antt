-- All kinds of fault that clap may find in the same words are questions, or none is.
use Rattle.std.proofs.Common.{◌≡◌, ℕ, zero, suc, List, [], ◌∷◌, Bool, true, false, not, ◌&&◌, ◌||◌, ◌∙◌, Option, Some, None, refl, ap, codes, length, drop, min, inl, inr, ◌⊎◌, ◌+◌, if◌then◌else◌}
use Rattle.std.specs.Prelude.{encode_utf8, find, is_some, nat_lt, slice_get, ◌==◌}
use Rattle.std.specs.Option.{option_map_or}
use Rattle.std.specs.Str.{bytes_eq, chars}
use Rattle.clap.specs.Facts.{parser_of_value, unwrap_or_range}
use Rattle.clap.specs.Faults.{action_fault, built_fault, bundle_fault, bundle_step_fault, count_fault, default_fault, defaults_fault, entered_fault, fault_of, flag_word_fault, flags_fault, level_fault, long_fault, option_fault, other_fault, positional_fault, react_fault, repeat_fault, set_fault, settle_fault, short_fault, step_fault, stray_fault, turn_fault, use_fault, values_fault, walk_fault, word_fault}
use Rattle.clap.specs.Kinds.{IsAmong, Kinds, check_kinds, or_else, range_kinds, request_kinds, value_kinds, values_kinds}
use Rattle.clap.specs.Lexer.{long_of, short_of}
use Rattle.clap.specs.Matches.{count_text}
use Rattle.clap.specs.Simple.{App, Shape, argument_words, built, entered, label_of, names_of}
use Rattle.clap.specs.ValueTests.{accepts}
use Rattle.clap.specs.Values.{refused_kind}
use Rattle.clap.specs.Walk.{Held, Names, Row, Rule, Step, Text, Waiting, Walk, action_of, answers_to, arg_by_id, arg_by_index, arg_by_long, arg_by_short, attached_value, count_of, has_row, is_empty, is_pending, most_values, nothing_held, reacted, settled, subcommand_met, takes_several, takes_values, values_or_missing, walk, walk_from, walked, with_default, word_met}
use Rattle.clap.specs.Walk.Step.{next, subcommand, trailing, value}
use Rattle.clap.specs.Walk.Waiting.{idle, option, positional}
use Rattle.clap.specs.declared.builder.action.ArgAction.{ArgAction}
use Rattle.clap.specs.declared.builder.action.ArgAction.TheVariants.{Set, Append, SetTrue, SetFalse, Count, Help, HelpShort, HelpLong, Version}
use Rattle.clap.specs.declared.builder.value_parser.ValueParser.{ValueParser}
use Rattle.clap.specs.declared.error.kind.ErrorKind.{ErrorKind}
use Rattle.clap.specs.declared.error.kind.ErrorKind.TheVariants as kind
use Rattle.command_line.specs.Commands.{whole}
use Rattle.command_line.specs.Jobs.{asks, asks_for}

pub record IsPure (kinds : Kinds) : Type 0 where
  pub agree : (k : ErrorKind) → IsAmong k kinds → asks_for k ≡ asks kinds

none_pure : IsPure []
none_pure = record { agree = λ k h. absurd h }

one_agrees : (x k : ErrorKind) → IsAmong k (x ∷ []) → asks_for k ≡ asks (x ∷ [])
one_agrees x k (inl e) = ap asks_for e
one_agrees x k (inr h) = absurd h

one_pure : (x : ErrorKind) → IsPure (x ∷ [])
one_pure x = record { agree = one_agrees x }

two_agree : (k : ErrorKind) → IsAmong k (kind.UnknownArgument ∷ kind.InvalidSubcommand ∷ []) → asks_for k ≡ false
two_agree k (inl e) = ap asks_for e
two_agree k (inr (inl e)) = ap asks_for e
two_agree k (inr (inr h)) = absurd h

two_pure : IsPure (kind.UnknownArgument ∷ kind.InvalidSubcommand ∷ [])
two_pure = record { agree = two_agree }

else_pure : (a b : Kinds) → IsPure a → IsPure b → IsPure (or_else a b)
else_pure [] b p q = q
else_pure (x ∷ xs) b p q = p

if_pure : (b : Bool) (x y : Kinds) → IsPure x → IsPure y → IsPure (if b then x else y)
if_pure true x y p q = p
if_pure false x y p q = q

map_pure : {A : Type 0} (f : A → Kinds) (o : Option A) (d : Kinds) → ((a : A) → IsPure (f a)) → IsPure d → IsPure (option_map_or f o d)
map_pure f None d p q = q
map_pure f (Some a) d p q = p a

-- one use of an argument

value_pure : (i : Bool) (p : ValueParser) (t : Text) → IsPure (value_kinds i p t)
value_pure i p t = if_pure (accepts i p t) [] (refused_kind p ∷ []) none_pure (one_pure (refused_kind p))

values_pure : (i : Bool) (p : ValueParser) (vs : List Text) → IsPure (values_kinds i p vs)
values_pure i p [] = none_pure
values_pure i p (v ∷ vs) = else_pure (value_kinds i p v) (values_kinds i p vs) (value_pure i p v) (values_pure i p vs)

range_pure : (least most n : ℕ) → IsPure (range_kinds least most n)
range_pure least most n =
    if_pure (nat_lt 0 least && n == 0) _ _ (one_pure kind.InvalidValue)
    (if_pure (least == most) _ _ (if_pure (least == n) _ _ none_pure (one_pure kind.WrongNumberOfValues))
    (if_pure (nat_lt n least) _ _ (one_pure kind.TooFewValues) (if_pure (nat_lt most n) _ _ (one_pure kind.TooManyValues) none_pure)))

request_pure : (action : ArgAction) → IsPure (request_kinds action)
request_pure Set = none_pure
request_pure Append = none_pure
request_pure SetTrue = none_pure
request_pure SetFalse = none_pure
request_pure Count = none_pure
request_pure Help = one_pure kind.DisplayHelp
request_pure HelpShort = one_pure kind.DisplayHelp
request_pure HelpLong = one_pure kind.DisplayHelp
request_pure Version = one_pure kind.DisplayVersion

count_pure : (a : Rule) (values : List Text) (rows : List Row) → IsPure (count_fault a values rows)
count_pure a [] rows = value_pure a.ignore_case (parser_of_value a.parser) (count_text (min (count_of a.id rows + 1) 255))
count_pure a (v ∷ vs) rows = values_pure a.ignore_case (parser_of_value a.parser) (v ∷ vs)

set_pure : (again : Bool) (a : Rule) (values : List Text) (rows : List Row) → IsPure (set_fault again a values rows)
set_pure again a values rows =
    else_pure (repeat_fault again a.id rows) (values_fault a values)
    (if_pure (has_row a.id rows && not again) (kind.ArgumentConflict ∷ []) [] (one_pure kind.ArgumentConflict) none_pure)
    (values_pure a.ignore_case (parser_of_value a.parser) values)

action_pure : (action : ArgAction) (again : Bool) (a : Rule) (values : List Text) (rows : List Row) → IsPure (action_fault action again a values rows)
action_pure Set again a values rows = set_pure again a values rows
action_pure SetTrue again a values rows = set_pure again a values rows
action_pure SetFalse again a values rows = set_pure again a values rows
action_pure Append again a values rows = values_pure a.ignore_case (parser_of_value a.parser) values
action_pure Count again a values rows = count_pure a values rows
action_pure Help again a values rows = request_pure Help
action_pure HelpShort again a values rows = request_pure HelpShort
action_pure HelpLong again a values rows = request_pure HelpLong
action_pure Version again a values rows = request_pure Version

use_pure : (again : Bool) (a : Rule) (values : List Text) (rows : List Row) → IsPure (use_fault again a values rows)
use_pure again a values rows =
    else_pure (range_kinds (unwrap_or_range a.range).start_inclusive (most_values a) (length values))
    (action_fault (action_of a) again a (values_or_missing a values) rows)
    (range_pure (unwrap_or_range a.range).start_inclusive (most_values a) (length values))
    (action_pure (action_of a) again a (values_or_missing a values) rows)

-- the walk

settle_pure : (c : List Rule) (again : Bool) (h : Held) → IsPure (settle_fault c again h)
settle_pure c again h =
    map_pure (λ p. option_map_or (λ a. use_fault again a p.1 h.rows) (arg_by_id c p.0) []) h.pending []
    (λ p. map_pure (λ a. use_fault again a p.1 h.rows) (arg_by_id c p.0) [] (λ a. use_pure again a p.1 h.rows) none_pure) none_pure

react_pure : (c : List Rule) (again : Bool) (a : Rule) (values : List Text) (h : Held) → IsPure (react_fault c again a values h)
react_pure c again a values h =
    else_pure (settle_fault c again h) (use_fault again a values (settled c h).rows) (settle_pure c again h) (use_pure again a values (settled c h).rows)

option_pure : (c : List Rule) (again : Bool) (a : Rule) (v : Option Text) (h : Held) → IsPure (option_fault c again a v h)
option_pure c again a (Some v) h = react_pure c again a (v ∷ []) h
option_pure c again a None h = settle_pure c again h

long_pure : (c : List Rule) (again : Bool) (o : Option Rule) (v : Option Text) (h : Held) → IsPure (long_fault c again o v h)
long_pure c again None v h = one_pure kind.UnknownArgument
long_pure c again (Some a) v h =
    if_pure (takes_values a) _ _ (option_pure c again a v h)
    (if_pure (is_some v) _ _ (one_pure kind.TooManyValues) (react_pure c again a [] h))

short_pure : (c : List Rule) (again : Bool) (o : Option Rule) (rest : Text) (h : Held) (after : Held → Kinds) → ((x : Held) → IsPure (after x))
    → IsPure (short_fault c again o rest h after)
short_pure c again None rest h after p = one_pure kind.UnknownArgument
short_pure c again (Some a) rest h after p =
    if_pure (takes_values a) _ _ (option_pure c again a (attached_value rest) h)
    (else_pure (react_fault c again a [] h) (after (reacted c a [] h)) (react_pure c again a [] h) (p (reacted c a [] h)))

bundle_step_pure : (c : List Rule) (again : Bool) (o : Option ℕ) (flags : Text) (skip : ℕ) (h : Held) (after : Text → ℕ → Held → Kinds)
    → ((t : Text) (n : ℕ) (x : Held) → IsPure (after t n x)) → IsPure (bundle_step_fault c again o flags skip h after)
bundle_step_pure c again None flags skip h after p = none_pure
bundle_step_pure c again (Some x) flags zero h after p =
    short_pure c again (arg_by_short c x) (drop (length (encode_utf8 x)) flags) h (after (drop (length (encode_utf8 x)) flags) 0)
    (p (drop (length (encode_utf8 x)) flags) 0)
bundle_step_pure c again (Some x) flags (suc skip) h after p = p (drop (length (encode_utf8 x)) flags) skip h

flags_pure : (c : List Rule) (again : Bool) (k : ℕ) (flags : Text) (skip : ℕ) (h : Held) → IsPure (flags_fault c again k flags skip h)
unfolding flags_fault
flags_pure c again zero flags skip h = none_pure
flags_pure c again (suc k) flags skip h =
    bundle_step_pure c again (slice_get (chars flags) 0) flags skip h (flags_fault c again k) (flags_pure c again k)

flag_word_pure : (c : List Rule) (again : Bool) (o : Option (Text × Option Text)) (word : Text) (h : Held) → IsPure (flag_word_fault c again o word h)
flag_word_pure c again (Some p) word h = long_pure c again (arg_by_long c p.0) p.1 h
flag_word_pure c again None word h =
    map_pure (λ flags. bundle_fault c again flags h) (short_of word) []
    (λ flags. flags_pure c again (length flags) flags h.skip (record h { skip = 0 })) none_pure

help_pure : (b d : Bool) → d ≡ true → IsPure (if b && not d then kind.DisplayHelp ∷ kind.InvalidSubcommand ∷ [] else [])
help_pure true true e = none_pure
help_pure true false e = absurd (cc)
help_pure false d e = none_pure

-- no subcommand is met, or `help` is none
other_pure : (s : Shape) (o : Option Text) (word : Text) (h : Held) → (s.disable_help_subcommand ≡ true) ⊎ (o ≡ None) → IsPure (other_fault s o word h)
other_pure s (Some name) word h (inl e) = help_pure (bytes_eq name (codes "help")) s.disable_help_subcommand e
other_pure s (Some name) word h (inr e) = absurd (cc)
other_pure s None word h e =
    if_pure (bytes_eq word (45 ∷ 45 ∷ [])) _ _ none_pure (flag_word_pure s.rules s.args_override_self (long_of word) word h)

abbrev IsQuiet : Shape → Names → Type 0
IsQuiet s names = (s.disable_help_subcommand ≡ true) ⊎ (names ≡ [])

unmet : (waiting : Waiting) (word : Text) → subcommand_met [] waiting word ≡ None
unmet idle word = refl
unmet (option id) word = refl
unmet positional word = refl

quiet_word : (s : Shape) (names : Names) (waiting : Waiting) (word : Text) → IsQuiet s names → (s.disable_help_subcommand ≡ true) ⊎ (subcommand_met names waiting word ≡ None)
quiet_word s names waiting word (inl e) = inl e
quiet_word s names waiting word (inr e) = inr (ap (λ n. subcommand_met n waiting word) e ∙ unmet waiting word)

word_pure : (s : Shape) (names : Names) (is_trailing : Bool) (waiting : Waiting) (word : Text) (h : Held) → IsQuiet s names
    → IsPure (word_fault s names is_trailing waiting word h)
word_pure s names is_trailing waiting word h quiet =
    if_pure is_trailing _ _ none_pure (other_pure s (subcommand_met names waiting word) word h (quiet_word s names waiting word quiet))

positional_pure : (c : List Rule) (again : Bool) (a : Rule) (h : Held) → IsPure (positional_fault c again a h)
positional_pure c again a h = if_pure (is_pending a h.pending && takes_several a) _ _ none_pure (settle_pure c again h)

stray_pure : (s : Shape) → IsPure (stray_fault s)
stray_pure s = if_pure s.is_leaf _ _ (one_pure kind.UnknownArgument) two_pure

step_pure : (s : Shape) (position : ℕ) (h : Held) (step : Step) → IsPure (step_fault s position h step)
step_pure s position h value =
    map_pure (λ a. positional_fault s.rules s.args_override_self a h) (arg_by_index s.rules position) (stray_fault s)
    (λ a. positional_pure s.rules s.args_override_self a h) (stray_pure s)
step_pure s position h (next waiting) = none_pure
step_pure s position h (trailing n) = none_pure
step_pure s position h (subcommand name) = none_pure

turn_pure : (s : Shape) (names : Names) (w : Walk) (word : Text) → IsQuiet s names → IsPure (turn_fault s names w word)
turn_pure s names w word quiet =
    let met = word_met s.rules names w.is_trailing w.waiting w.position word w.held in
    if_pure (is_some w.stopped) _ _ none_pure
    (else_pure (word_fault s names w.is_trailing w.waiting word w.held) (step_fault s w.position met.0 met.1)
    (word_pure s names w.is_trailing w.waiting word w.held quiet) (step_pure s w.position met.0 met.1))

walk_pure : (s : Shape) (names : Names) (w : Walk) (words : List Text) → IsQuiet s names → IsPure (walk_fault s names w words)
unfolding walk_fault
walk_pure s names w [] quiet = none_pure
walk_pure s names w (word ∷ rest) quiet =
    else_pure (turn_fault s names w word) (walk_fault s names (walked s.rules names w word) rest) (turn_pure s names w word quiet)
    (walk_pure s names (walked s.rules names w word) rest quiet)

-- after the walk

default_pure : (rows : List Row) (a : Rule) → IsPure (default_fault rows a)
default_pure rows a =
    if_pure (has_row a.id rows || is_empty a.defaults) _ _ none_pure
    (else_pure (request_kinds (action_of a)) (values_fault a a.defaults) (request_pure (action_of a))
    (values_pure a.ignore_case (parser_of_value a.parser) a.defaults))

defaults_pure : (rows : List Row) (rules : List Rule) → IsPure (defaults_fault rows rules)
unfolding defaults_fault
defaults_pure rows [] = none_pure
defaults_pure rows (a ∷ rest) =
    else_pure (default_fault rows a) (defaults_fault (with_default rows a) rest) (default_pure rows a) (defaults_pure (with_default rows a) rest)

check_pure : (a b c : Bool) → IsPure (check_kinds a b c)
check_pure a b c =
    if_pure a _ _ (one_pure kind.DisplayHelpOnMissingArgumentOrSubcommand)
    (if_pure b _ _ (one_pure kind.MissingSubcommand) (if_pure c _ _ (one_pure kind.MissingRequiredArgument) none_pure))

level_pure : (s : Shape) (names : Names) (h : Held) (words : List Text) (has : Bool) (below : Kinds) → IsQuiet s names → IsPure below
    → IsPure (level_fault s names h words has below)
level_pure s names h words has below quiet p =
    else_pure _ _ (walk_pure s names (walk_from h) words quiet)
    (else_pure below _ p
    (else_pure _ _ (settle_pure s.rules s.args_override_self (walk s.rules names h words).held)
    (else_pure _ _ (defaults_pure (settled s.rules (walk s.rules names h words).held).rows s.rules) (check_pure _ _ _))))

entered_pure : (a : App) (stop : Option (Text × List Text)) → IsPure (entered_fault a stop)
entered_pure a stop =
    map_pure (λ p. option_map_or (λ s. level_fault s [] nothing_held p.1 false []) (find (λ s. answers_to p.0 (label_of s)) a.subs) []) stop []
    (λ p. map_pure (λ s. level_fault s [] nothing_held p.1 false []) (find (λ s. answers_to p.0 (label_of s)) a.subs) []
    (λ s. level_pure s [] nothing_held p.1 false [] (inr refl) none_pure) none_pure) none_pure

built_pure : (a : App) (h : Held) (words : List Text) → a.top.disable_help_subcommand ≡ true → IsPure (built_fault a h words)
built_pure a h words e =
    let stop = (walk a.top.rules (names_of a) h words).stopped in
    level_pure a.top (names_of a) h words (is_some (entered a stop)) (entered_fault a stop) (inl e) (entered_pure a stop)

has_no_help : (built whole).top.disable_help_subcommand ≡ true
has_no_help = refl

pub fault_is_pure : (words : List Text) → IsPure (fault_of whole words)
fault_is_pure words = built_pure (built whole) nothing_held (argument_words whole words) has_no_help
