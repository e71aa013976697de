-- What a report tells happened in its world, also where the bytes of its messages are printed.
use Rattle.std.proofs.Common.{ℕ, zero, suc, List, [], ◌∷◌, ◌++◌, ◌≡◌, ◌==◌, ◌/◌, ◌%◌, ◌<◌, ◌^◌, Bool, true, false, refl, sym, ap, subst, ◌∙◌, map, get_or, length}
use Rattle.std.specs.Prelude.{IfSome, Option, Some, None, codes, decimal, drop, filter, if◌then◌else◌, nat_eq}
use Rattle.std.specs.List.{AllByRecursion, list_any}
use Rattle.std.proofs.lemmas.List.{append_assoc}
use Rattle.at_base.specs.IdText.{id_text}
use Rattle.at_base.specs.Names.{fault_name, kind_letter, notice_name}
use Rattle.at_base.specs.declared.epr.Epr.{Epr}
use Rattle.at_base.specs.declared.fault.Fault.{Fault}
use Rattle.at_base.specs.declared.fault.Fault.TheVariants as faults
use Rattle.at_base.specs.declared.message.Message.{Message}
use Rattle.at_base.specs.declared.message.Message.TheVariants as messages
use Rattle.at_base.specs.declared.notice.Kind.{Kind}
use Rattle.at_base.specs.declared.notice.Kind.TheVariants as kinds
use Rattle.at_base.specs.declared.notice.Notice.{Notice}
use Rattle.at_base.specs.declared.notice.Notice.TheVariants as notices
use Rattle.at_base.specs.declared.target.Target.{Target}
use Rattle.at_base.specs.declared.target.Target.TheVariants as targets
use Rattle.at_model.specs.Views.{behind_slash, message_name, path_in}
use Rattle.at_model.specs.World.{Happened, Hosts, Posted, World, example_base, example_hosts}
use Rattle.deliveries.specs.DeliverableNets.{IsPostedOf}
use Rattle.endpoints.specs.Addresses.{path_of, slash}
use Rattle.hex.specs.Hex.{encode_lower, encode_with, lower_digits}
use Rattle.memory_net.specs.Closed.{IsExample, StaysClosed, closed}
use Rattle.memory_net.specs.Mails.{Mail}
use Rattle.mirrored_nets.specs.Seen.{Seen}
use Rattle.provenance.specs.Forms.{IsMessage}
use Rattle.replay_cmd.specs.Lines.{bytes_line}
use Rattle.reported_effects.specs.EffectLines.{IsOnOneLine, IsUnbroken, Tells, is_effect_line, with_end}
use Rattle.reported_effects.proofs.PrintedLines.{decimal_unbroken, id_unbroken}
use Rattle.reported_effects.proofs.PrintedTexts.{IsEnd, end, fed, lines_are, lines_unbroken, neither, onto, part, unbroken_both}
use Rattle.schedules.specs.Words.{lines_of}
use Rattle.site_memory.specs.Sites.{told_of}
use Rattle.net_plays.specs.MessageBytes.{is_message, left_by, line_with, shown, with_bytes}
use Rattle.asked_nets.specs.Happened.{MirrorsAt}

-- the path of a message among nodes of the examples

kind_unbroken : (kind : Kind) → IsUnbroken (kind_letter kind)
kind_unbroken kinds.Durable = refl
kind_unbroken kinds.Volatile = refl

path_unbroken : (t : Target) → IsUnbroken (path_of t)
path_unbroken targets.Activation = refl
path_unbroken (targets.Registration id) = id_unbroken id
path_unbroken (targets.Completion id) = id_unbroken id
path_unbroken (targets.Coordinator id seat) =
    (part (codes "/c/") _ refl (part (kind_letter seat.kind) _ (kind_unbroken seat.kind)
    (part (codes "/") _ refl (part (id_text id) _ (id_unbroken id)
    (part (codes "/") (decimal seat.number) refl (record { whole = decimal_unbroken seat.number })))))).whole
path_unbroken (targets.Participant id kind) =
    (part (codes "/p/") _ refl (part (kind_letter kind) _ (kind_unbroken kind) (part (codes "/") (id_text id) refl (record { whole = id_unbroken id })))).whole
path_unbroken (targets.Initiator id) = id_unbroken id
path_unbroken targets.Work = refl

base_unbroken : (n : ℕ) → IsUnbroken (example_base n)
base_unbroken n = unbroken_both (decimal n) (codes ".example") (decimal_unbroken n) refl

-- what stands behind other bytes of a text without LF has none

drop_unbroken : (n : ℕ) (xs : List ℕ) → IsUnbroken xs → IsUnbroken (drop n xs)
drop_unbroken zero xs h = h
drop_unbroken (suc n) [] h = refl
drop_unbroken (suc n) (x ∷ xs) h = drop_unbroken n xs (neither (x == 10) (list_any (λ b. b == 10) xs) h).1

slash_unbroken : (xs : List ℕ) → IsUnbroken xs → IsUnbroken (behind_slash xs)
slash_unbroken [] h = refl
slash_unbroken (x ∷ xs) h = by_byte (slash_unbroken xs (neither (x == 10) (list_any (λ b. b == 10) xs) h).1) (nat_eq x slash)
  where
    by_byte : IsUnbroken (behind_slash xs) → (b : Bool) → IsUnbroken (if b then x ∷ xs else behind_slash xs)
    by_byte rest true = h
    by_byte rest false = rest

to_unbroken : (o : Option Epr) → IfSome o IsExample → IsUnbroken (path_in o)
to_unbroken None h = refl
to_unbroken (Some to) h =
    slash_unbroken (drop (length (codes "http://")) to.address)
    (drop_unbroken (length (codes "http://")) to.address
    (subst IsUnbroken (sym (ap (λ (x : Epr). x.address) h.same))
    (unbroken_both (example_base h.number) (path_of h.target) (base_unbroken h.number) (path_unbroken h.target))))

-- its name

fault_unbroken : (f : Fault) → IsUnbroken (fault_name f)
fault_unbroken faults.InvalidState = refl
fault_unbroken faults.InvalidProtocol = refl
fault_unbroken faults.InvalidParameters = refl
fault_unbroken faults.CannotCreateContext = refl
fault_unbroken faults.CannotRegisterParticipant = refl
fault_unbroken faults.UnknownTransaction = refl

notice_unbroken : (n : Notice) → IsUnbroken (notice_name n)
notice_unbroken notices.Prepare = refl
notice_unbroken notices.Commit = refl
notice_unbroken notices.Rollback = refl
notice_unbroken notices.Prepared = refl
notice_unbroken notices.ReadOnly = refl
notice_unbroken notices.Aborted = refl
notice_unbroken notices.Committed = refl

name_unbroken : (m : Message) → IsMessage closed m → IsUnbroken (message_name m)
name_unbroken (messages.Create c) h = refl
name_unbroken (messages.CreateResponse context) h = refl
name_unbroken (messages.Register r) h = refl
name_unbroken (messages.RegisterResponse epr) h = refl
name_unbroken (messages.Notice n) h = notice_unbroken n
name_unbroken (messages.Work w) h = refl
name_unbroken messages.WorkDone h = refl
name_unbroken messages.WorkRefused h = refl
name_unbroken (messages.Fault name) h = subst IsUnbroken (sym h.1) (fault_unbroken h.0)

posts_on_one_line : (hosts : Hosts) (ps : List Posted) → AllByRecursion (IsPostedOf closed hosts) ps → AllByRecursion IsOnOneLine ps
posts_on_one_line hosts [] h = tt
posts_on_one_line hosts (p ∷ ps) h =
    (record { name = name_unbroken p.content.message h.0.content.message; path = to_unbroken p.content.to h.0.content.to }, posts_on_one_line hosts ps h.1)

-- of the messages of a world that a net in memory mirrors
pub on_one_line : StaysClosed told_of → (count : ℕ) (net : Seen) (w : World) → count < 2 ^ 64 → MirrorsAt count net w → AllByRecursion IsOnOneLine w.posted
on_one_line closes count net w few m =
    subst (AllByRecursion IsOnOneLine) (sym m.world.posted)
    (posts_on_one_line (example_hosts count) m.stands.net.posted (closes count m.stands.net m.stands.sites few m.stands.serves m.stands.asks).posted)

-- the bytes of a message, in hexadecimal

digit_unbroken : (i : ℕ) (ds : List ℕ) → IsUnbroken ds → (get_or ds i 0 == 10) ≡ false
digit_unbroken i [] h = refl
digit_unbroken zero (d ∷ ds) h = (neither (d == 10) (list_any (λ b. b == 10) ds) h).0
digit_unbroken (suc i) (d ∷ ds) h = digit_unbroken i ds (neither (d == 10) (list_any (λ b. b == 10) ds) h).1

pub hex_unbroken : (bytes : List ℕ) → IsUnbroken (encode_lower bytes)
unfolding encode_with
hex_unbroken [] = refl
hex_unbroken (b ∷ rest) = rw (digit_unbroken (b / 16) lower_digits refl, digit_unbroken (b % 16) lower_digits refl) (hex_unbroken rest)

-- A text of whole lines that tell what these tell.
record TellsAs (ls : List (List ℕ)) (text : List ℕ) : Type 0 where
  lines : List (List ℕ)
  is : text ≡ fed lines
  whole : AllByRecursion IsUnbroken lines
  same : filter is_effect_line lines ≡ filter is_effect_line ls

bytes_end : (bytes : List ℕ) → (h : IsEnd (bytes_line bytes)) × (is_effect_line h.body ≡ false)
unfolding bytes_line
bytes_end bytes = (onto (codes "bytes ") _ refl (onto (encode_lower bytes) (codes "\n") (hex_unbroken bytes) end), refl)

line_as : (line : List ℕ) (more : List (List ℕ)) (text : List ℕ) → IsUnbroken line → TellsAs more text → TellsAs (line ∷ more) (with_end line ++ text)
line_as line more text h k = record {
  lines = line ∷ k.lines;
  is = ap (λ t. with_end line ++ t) k.is;
  whole = (h, k.whole);
  same = ap (λ ts. if is_effect_line line then line ∷ ts else ts) k.same;
}

message_as : (line : List ℕ) (bytes : List ℕ) (more : List (List ℕ)) (text : List ℕ) → IsUnbroken line → TellsAs more text
    → TellsAs (line ∷ more) ((with_end line ++ bytes_line bytes) ++ text)
message_as line bytes more text h k =
    let (b, tells_nothing) = bytes_end bytes in
    record {
      lines = line ∷ b.body ∷ k.lines;
      is = append_assoc (with_end line) (bytes_line bytes) text ∙ (λ i. with_end line ++ (b.is i ++ k.is i));
      whole = (h, (b.whole, k.whole));
      same = ap (λ ts. if is_effect_line line then line ∷ ts else ts) (rw tells_nothing k.same);
    }

bytes_as : (mails : List Mail) (ls : List (List ℕ)) → AllByRecursion IsUnbroken ls → TellsAs ls (with_bytes mails ls)
bytes_as mails [] h = record { lines = []; is = refl; whole = tt; same = refl }
bytes_as mails (line ∷ rest) h = by_message (λ ms. bytes_as ms rest h.1) (is_message line) mails
  where
    by_message : ((ms : List Mail) → TellsAs rest (with_bytes ms rest)) → (b : Bool) (ms : List Mail)
        → TellsAs (line ∷ rest) (line_with b ms line ++ with_bytes (left_by b ms) rest)
    by_message more true [] = line_as line rest (with_bytes [] rest) h.0 (more [])
    by_message more true (m ∷ ms) = message_as line m.bytes rest (with_bytes ms rest) h.0 (more ms)
    by_message more false ms = line_as line rest (with_bytes ms rest) h.0 (more ms)

pub shown_tells : (bytes : Bool) (mails : List Mail) (report : List ℕ) (all : List Happened) → Tells report all → Tells (shown bytes mails report) all
shown_tells false mails report all h = h
shown_tells true mails report all h =
    let k = bytes_as mails (lines_of report) (lines_unbroken report) in
    ap (λ t. map with_end (filter is_effect_line t)) (ap lines_of k.is ∙ lines_are k.lines k.whole) ∙ (ap (map with_end) k.same ∙ h)
