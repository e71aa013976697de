-- What was read and printed, as the clauses of the top call say it.
use Rattle.std.proofs.Common.{◌≡◌, ℕ, List, [], ◌∷◌, Bool, true, false, Option, Some, None, IsTrue, IfSome, Result, Ok, Err, length, take, nat_eq, ◌≤◌, ◌||◌, ◌⊎◌, inl, inr, append-nil, refl, sym, subst, ◌∙◌}
use Rattle.std.proofs.lemmas.Bool.{eqb-true}
use Rattle.std.specs.List.{list_any}
use Rattle.std.specs.Io.KnownBytes.{Appends}
use Rattle.site_model.specs.Counts.{RisesBy}
use Rattle.site_model.specs.Source.{IsWhole}
use Rattle.envelope_cmd.specs.Output.{Output, accepted, refused}
use Rattle.mirrored_nets.specs.Seen.{Seen}
use Rattle.net_plays.specs.NetReports.{IsNetReport}
use Rattle.net_plays.specs.Stops.{HasNoReport}
use Rattle.net_plays.specs.Stops.Why.{HasMany, IsFull}
use Rattle.net_plays.specs.declared.play_error.PlayError.{PlayError}
use Rattle.net_plays.specs.declared.play_error.PlayError.TheVariants.{NoMemory, TooManyEvents}
use Rattle.command_line.specs.Jobs.{Filter, is_replay}
use Rattle.replay_cmd.specs.declared.options.Options.{Options}
use Rattle.schedules.specs.declared.line.BadLine.{BadLine}
use Rattle.schedules.specs.declared.line.Line.{Line}
use Rattle.command_line.specs.Reports.{FindsNoRoom, FindsTooManyEvents, HasNoRoomFor, IsCut, IsDone, IsReport, IsReplayed, Replays, Reports, bad_line, status_of}

pub on_some : {P Q : List ℕ → Type 0} (left : Option (List ℕ)) → ((input : List ℕ) → P input → Q input) → IfSome left P → IfSome left Q
on_some None f h = tt
on_some (Some input) f h = f input h

pub all_given : (left : Option (List ℕ)) (before now : ℕ) (bytes : List ℕ) → IsWhole left before now bytes
    → IfSome left (λ input. RisesBy (length input) before now)
all_given left before now bytes h =
    on_some {P = λ input. bytes ≡ input} {Q = λ input. RisesBy (length input) before now} left (λ input e. subst (λ x. RisesBy (length x) before now) e h.given) h.all

not_five : (status : ℕ) → status ≡ 5 → IsTrue (list_any (nat_eq status) (0 ∷ 3 ∷ [])) → ⊥
not_five status e k = let no_more : IsTrue false = subst (λ n. IsTrue (list_any (nat_eq n) (0 ∷ 3 ∷ []))) e k in absurd cc

settled_by : (status s : ℕ) (a b : Bool) → nat_eq status s ≡ a → nat_eq status 5 ≡ b → IsTrue (a || (b || false))
    → IsTrue (list_any (nat_eq status) (0 ∷ 3 ∷ [])) → status ≡ s
settled_by status s true b p q h k = eqb-true status s p
settled_by status s false true p q h k = absurd (not_five status (eqb-true status 5 q) k)
settled_by status s false false p q h k = let no_more : IsTrue false = h in absurd cc

reported : (job : Filter) (bytes told input : List ℕ) (output : Output) → told ≡ bytes → bytes ≡ input → Reports job told output → Reports job input output
reported job bytes told input output f g h = subst (λ x. Reports job x output) (f ∙ g) h

pub all_printed : (left : Option (List ℕ)) (before now : ℕ) (bytes told : List ℕ) (job : Filter) (old new : Option (List ℕ)) (status : ℕ) (output : Output)
    → IsWhole left before now bytes → told ≡ bytes → Reports job told output
    → IsTrue (list_any (nat_eq status) (status_of output ∷ 5 ∷ [])) → (status ≡ status_of output → Appends old new output.text)
    → IsTrue (list_any (nat_eq status) (0 ∷ 3 ∷ [])) → IfSome left (λ input. IsDone job input old new status)
all_printed left before now bytes told job old new status output whole t reports statuses all done =
    let e : status ≡ status_of output = settled_by status (status_of output) (nat_eq status (status_of output)) (nat_eq status 5) refl refl statuses done in
    on_some {P = λ input. bytes ≡ input} {Q = λ input. IsDone job input old new status} left
    (λ input f. record { output = output; reports = reported job bytes told input output t f reports; printed = all e; ended = e }) whole.all

pub part_printed : (left : Option (List ℕ)) (before now : ℕ) (bytes told : List ℕ) (job : Filter) (old new : Option (List ℕ)) (output : Output)
    → IsWhole left before now bytes → told ≡ bytes → Reports job told output
    → (n : ℕ) × ((n ≤ length output.text) × Appends old new (take n output.text)) → IfSome left (λ input. IsCut job input old new)
part_printed left before now bytes told job old new output whole t reports (n, (within, part)) =
    on_some {P = λ input. bytes ≡ input} {Q = λ input. IsCut job input old new} left
    (λ input f. record { output = output; reports = reported job bytes told input output t f reports; count = n; within = within; printed = part }) whole.all

pub replayed_so :
    (options : Options) (lines : List Line) (text : List ℕ) (net : Seen) (output : Output) → IsNetReport options lines text net → output ≡ accepted text → IsReplayed options lines output
replayed_so options lines text net output h e = record { text = text; net = net; report = h; is = e }

pub replays_so :
    (options : Options) (r : Result (List Line) BadLine) (lines : List Line) (output : Output) → r ≡ Ok lines → IsReplayed options lines output
    → Replays options r output
replays_so options r lines output e h = subst (λ x. Replays options x output) (sym e) h

pub refuses_so :
    (options : Options) (r : Result (List Line) BadLine) (bad : BadLine) (output : Output) → r ≡ Err bad → output ≡ refused (bad_line bad)
    → Replays options r output
refuses_so options r bad output e h = subst (λ x. Replays options x output) (sym e) h

pub finds_so : (options : Options) (r : Result (List Line) BadLine) (lines : List Line) → r ≡ Ok lines → HasNoReport IsFull options.settle lines → FindsNoRoom options r
finds_so options r lines e h = subst (λ x. FindsNoRoom options x) (sym e) h

pub finds_many_so : (options : Options) (r : Result (List Line) BadLine) (lines : List Line) → r ≡ Ok lines → HasNoReport HasMany options.settle lines → FindsTooManyEvents options r
finds_many_so options r lines e h = subst (λ x. FindsTooManyEvents options x) (sym e) h

pub none_given : (left : Option (List ℕ)) (before now : ℕ) (bytes told : List ℕ) (job : Filter) → IsWhole left before now bytes → told ≡ bytes → HasNoRoomFor job told → IfSome left (HasNoRoomFor job)
none_given left before now bytes told job whole t none =
    on_some {P = λ input. bytes ≡ input} {Q = λ input. HasNoRoomFor job input} left (λ input f. subst (HasNoRoomFor job) (t ∙ f) none) whole.all

appends_nothing : (x : Option (List ℕ)) → Appends x x []
appends_nothing None = tt
appends_nothing (Some xs) = sym (append-nil xs)

-- a replay that would have had too many events printed nothing
pub undone_so : (job : Filter) (input : List ℕ) (contents : Option (List ℕ)) (e : PlayError) → e ≡ TooManyEvents → (e ≡ NoMemory) ⊎ (is_replay job ≡ true)
    → IsReport job input contents contents 14
undone_so job input contents e is (inl none) = let both : TooManyEvents ≡ NoMemory = sym is ∙ none in absurd cc
undone_so job input contents e is (inr replays) = inr (record { silent = appends_nothing contents; cause = inr (replays, inr refl) })
