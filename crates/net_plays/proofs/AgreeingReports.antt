-- A report agrees in print, also where the bytes of its messages are printed.
use Rattle.std.proofs.Common.{ℕ, suc, List, [], ◌∷◌, ◌++◌, ◌≡◌, ◌<◌, ◌^◌, Bool, true, false, refl, length, map, sym, ap, subst, ◌∙◌}
use Rattle.std.specs.Prelude.{IfSome, codes}
use Rattle.std.specs.List.{AllByRecursion}
use Rattle.at_base.specs.declared.epr.Epr.{Epr}
use Rattle.at_base.specs.declared.message.Message.{Message}
use Rattle.at_base.specs.declared.message.Message.TheVariants as messages
use Rattle.at_model.specs.World.{Posted, World, example_hosts}
use Rattle.deliveries.specs.DeliverableNets.{IsPostedOf}
use Rattle.hex.specs.Hex.{encode_lower}
use Rattle.memory_net.specs.Closed.{IsExample, StaysClosed, closed}
use Rattle.memory_net.specs.Mails.{Mail, mail_of}
use Rattle.memory_net.specs.Stands.{AreMailsOf}
use Rattle.model_laws.specs.Agreement.{IsAgreed}
use Rattle.model_laws.proofs.Addresses.{examples_apart}
use Rattle.printed_agreement.specs.PlainPosts.{IsOfNode, IsPlain, IsPlainMessage}
use Rattle.printed_agreement.specs.RegisterAnswers.{EventsBring}
use Rattle.printed_agreement.specs.PrintedAgreement.{AgreesInPrint}
use Rattle.printed_agreement.specs.ReportLines.{Brings, Entry, Quiet, Sound, line_in}
use Rattle.printed_agreement.proofs.Chunks.{Printed, Quietly, Reads, quietly, reads_both, reads_none, reads_one}
use Rattle.printed_agreement.proofs.Reports.{printed_agrees}
use Rattle.printed_agreement.proofs.Soundness.{brings_same, sound_quiet}
use Rattle.printed_agreement.proofs.Texts.{apart}
use Rattle.provenance.specs.Forms.{IsMessage}
use Rattle.replay_cmd.specs.Lines.{bytes_line}
use Rattle.replay_cmd.specs.ReportOf.{ended}
use Rattle.reported_effects.specs.EffectLines.{IsUnbroken, Tells, with_end}
use Rattle.reported_effects.proofs.PrintedTexts.{end, lines_are, onto}
use Rattle.schedules.specs.Words.{lines_of}
use Rattle.schedules.specs.declared.line.Line.{Line}
use Rattle.site_memory.specs.Sites.{told_of}
use Rattle.net_plays.specs.MessageBytes.{is_message, left_by, line_with, shown, with_bytes}
use Rattle.asked_nets.specs.Happened.{MirrorsAt}
use Rattle.net_plays.specs.PlayedLines.{TakesAll}
use Rattle.net_plays.specs.Plays.{IsBegun, Play, Rests}
use Rattle.net_plays.proofs.PrintedPlays.{play_prints}
use Rattle.net_plays.proofs.TellingReports.{hex_unbroken}

-- messages of such nodes are plain

of_node : (e : Epr) → IsExample e → IsOfNode e
of_node e h = record { number = h.number; least = h.least; small = h.small; target = h.target; written = h.written; same = h.same }

plain_message : (m : Message) → IsMessage closed m → IsPlainMessage m
plain_message (messages.Create c) h = tt
plain_message (messages.CreateResponse context) h = tt
plain_message (messages.Register r) h = tt
plain_message (messages.RegisterResponse c) h = of_node c h
plain_message (messages.Notice n) h = tt
plain_message (messages.Work w) h = tt
plain_message messages.WorkDone h = tt
plain_message messages.WorkRefused h = tt
plain_message (messages.Fault name) h = h

plain_posts : (count : ℕ) (ps : List Posted) → AllByRecursion (IsPostedOf closed (example_hosts count)) ps → AllByRecursion (IsPlain count) ps
plain_posts count [] h = tt
plain_posts count (p ∷ ps) h = (
  record { to = λ e is. of_node e (subst (λ o. IfSome o IsExample) is h.0.content.to); received = h.0.received; message = plain_message p.content.message h.0.content.message },
  plain_posts count ps h.1,
)

same_count : (ps : List Posted) (ms : List Mail) → AreMailsOf ps ms → length ps ≡ length ms
same_count [] [] h = refl
same_count [] (m ∷ ms) h = absurd h
same_count (p ∷ ps) [] h = absurd h
same_count (p ∷ ps) (m ∷ ms) h = ap suc (same_count ps ms h.1)

-- the line of a message's bytes

bytes_quiet : (bytes : List ℕ) → Quietly (bytes_line bytes)
unfolding bytes_line
bytes_quiet bytes = quietly _ (onto (codes "bytes ") _ refl (onto (encode_lower bytes) (codes "\n") (hex_unbroken bytes) end))
    (record { message = λ k i j name path e. apart 0 _ _ e refl; delivery = λ k m status e. apart 0 _ _ e refl })

-- Lines with those of bytes put in, and what stands before them brings about what it did.
record Put (count : ℕ) (w : World) (es : List Entry) (text : List ℕ) : Type 0 where
  entries : List Entry
  reads : Reads text entries
  sound : Sound (example_hosts count) w entries
  same : (x : Entry) → Brings (example_hosts count) w x es → Brings (example_hosts count) w x entries

module _ (count : ℕ) (w : World) where
  put_line : (e : Entry) (es : List Entry) (text : List ℕ) → IsUnbroken (line_in e) → Sound (example_hosts count) w (e ∷ es) → Put count w es text → Put count w (e ∷ es) (with_end (line_in e) ++ text)
  put_line e es text whole h k = record {
    entries = e ∷ k.entries;
    reads = reads_both (with_end (line_in e)) text (e ∷ []) k.entries (reads_one (with_end (line_in e)) e refl whole) k.reads;
    sound = (h.0, k.same e h.1, k.sound);
    same = λ x b. brings_same (example_hosts count) w x e es k.entries b;
  }

  put_bytes : (e : Entry) (es : List Entry) (bytes text : List ℕ) → IsUnbroken (line_in e) → Sound (example_hosts count) w (e ∷ es) → Put count w es text
      → Put count w (e ∷ es) ((with_end (line_in e) ++ bytes_line bytes) ++ text)
  put_bytes e es bytes text whole h k =
      let q : Quietly (bytes_line bytes) = bytes_quiet bytes in
      record {
        entries = e ∷ (Quiet q.line ∷ k.entries);
        reads = reads_both (with_end (line_in e) ++ bytes_line bytes) text (e ∷ (Quiet q.line ∷ [])) k.entries
            (reads_both (with_end (line_in e)) (bytes_line bytes) (e ∷ []) (Quiet q.line ∷ []) (reads_one (with_end (line_in e)) e refl whole) q.reads) k.reads;
        sound = sound_quiet (example_hosts count) w e q.line k.entries h.0 q.quiet k.sound;
        same = λ x b. brings_same (example_hosts count) w x e es (Quiet q.line ∷ k.entries) b;
      }

  put_all : (mails : List Mail) (es : List Entry) → AllByRecursion IsUnbroken (map line_in es) → Sound (example_hosts count) w es → Put count w es (with_bytes mails (map line_in es))
  put_all mails [] whole h = record { entries = []; reads = reads_none; sound = tt; same = λ x b. b }
  put_all mails (e ∷ es) whole h = by_message (λ ms. put_all ms es whole.1 h.2) (is_message (line_in e)) mails
    where
      by_message : ((ms : List Mail) → Put count w es (with_bytes ms (map line_in es))) → (b : Bool) (ms : List Mail)
          → Put count w (e ∷ es) (line_with b ms (line_in e) ++ with_bytes (left_by b ms) (map line_in es))
      by_message more true [] = put_line e es (with_bytes [] (map line_in es)) whole.0 h (more [])
      by_message more true (m ∷ ms) = put_bytes e es m.bytes (with_bytes ms (map line_in es)) whole.0 h (more ms)
      by_message more false ms = put_line e es (with_bytes ms (map line_in es)) whole.0 h (more ms)

  printed_shown : (bytes : Bool) (mails : List Mail) (report : List ℕ) → Printed count w report → Printed count w (shown bytes mails report)
  printed_shown false mails report p = p
  printed_shown true mails report p =
      let k : Put count w p.entries (with_bytes mails (map line_in p.entries)) = put_all mails p.entries p.reads.whole p.sound in
      subst (λ ls. Printed count w (with_bytes mails ls)) (sym (ap lines_of p.reads.is ∙ lines_are (map line_in p.entries) p.reads.whole))
      (record { entries = k.entries; reads = k.reads; sound = k.sound })

pub agreed_in_print : EventsBring → StaysClosed told_of → (settles bytes : Bool) (all : List Line) (count : ℕ) (first last play : Play) (text : List ℕ)
    → count < 2 ^ 64 → IsBegun count first → TakesAll all first last → Rests settles last play → text ≡ shown bytes (map mail_of play.net.letters) (play.text ++ ended play.world)
    → length (map mail_of play.net.letters) < 2 ^ 64 → MirrorsAt count play.net play.world → Tells text play.world.happened → IsAgreed play.world → AgreesInPrint (lines_of text)
agreed_in_print bring closes settles bytes all count first last play text few begun taken rests is short m tells agreed =
    let distinct = examples_apart count few in
    let holds = play_prints bring count distinct settles all first last play begun taken rests in
    let plain : AllByRecursion (IsPlain count) play.world.posted =
    subst (AllByRecursion (IsPlain count)) (sym m.world.posted) (plain_posts count m.stands.net.posted (closes count m.stands.net m.stands.sites few m.stands.serves m.stands.asks).posted) in
    let near : length play.world.posted < 2 ^ 64 =
    subst (λ n. n < 2 ^ 64) (sym (ap length m.world.posted ∙ same_count m.stands.net.posted (map mail_of play.net.letters) m.stands.letters)) short in
    printed_agrees count play.world text few distinct holds.reached plain near
    (subst (Printed count play.world) (sym is) (printed_shown count play.world bytes (map mail_of play.net.letters) (play.text ++ ended play.world) (holds.printed plain))) tells agreed
