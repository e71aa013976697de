-- The bytes that ask for what is due do so.
use Rattle.std.proofs.Common.{◌≡◌, false, [], ◌∷◌, Ok, length, take, drop, refl, sym, subst, arith}
use Rattle.std.specs.Prelude.{codes}
use Rattle.std.specs.Fmt.{digits}
use Rattle.std.proofs.lemmas.List.Elements.{All-from_recursion}
use Rattle.std.proofs.lemmas.List.Sums.{AllPass-from_list_all}
use Rattle.std.proofs.lemmas.Str.{IsUtf8-from_is_utf8}
use Rattle.std.specs.Str.{chars, is_utf8}
use Rattle.httparse.specs.Grammar.{IsField, IsRequestHead, ReadsRequest, RequestHead, is_token_byte, is_uri_byte, print_request, trim_ows}
use Rattle.addressing.specs.declared.post_to.PostTo.{PostTo}
use Rattle.at_base.specs.declared.event.Event.TheVariants as events
use Rattle.http_post.specs.Conversations.{Waits, is_framed}
use Rattle.http_post.specs.Heads.{framing_of}
use Rattle.http_post.specs.OutBytes.{field, head_end, line, request_line, tick_of}
use Rattle.http_post.specs.Requests.{Asks, all_there, framed}
use Rattle.http_post.specs.declared.framing.Framing.TheVariants.{Sized}
use Rattle.node_at.specs.Meanings.{Means, is_request, request, tick_path, ticks}
use Rattle.node_at.specs.Meanings.Meaning.{Steps}
use Rattle.node_at.specs.declared.role.Role.TheVariants.{All}
use Rattle.carried_meanings.specs.CarriedMeanings.{TicksAsk}
use Rattle.carried_meanings.proofs.ReadHeads.{of, valued, with_fields}

abbrev there : PostTo
there = record { host = codes "node"; port = 80; path = tick_path }

abbrev head : RequestHead
head = with_fields tick_path (of (codes "Host") (codes "node") ∷ of (codes "Content-Length") (codes "0") ∷ of (codes "Connection") (codes "close") ∷ [])

head_so : IsRequestHead head
unfolding is_token_byte chars is_utf8 lib.Utf8.encode
head_so = record {
  method = (omega arith, AllPass-from_list_all is_token_byte (codes "POST") refl);
  target = (omega arith, AllPass-from_list_all is_uri_byte tick_path refl);
  target_text = IsUtf8-from_is_utf8 tick_path refl;
  minor = omega arith;
  fields =
      All-from_recursion IsField head.fields (
        valued (codes "Host") (codes "node") refl (omega arith) refl,
        (valued (codes "Content-Length") (codes "0") refl (omega arith) refl, (valued (codes "Connection") (codes "close") refl (omega arith) refl, tt)),
      );
}

reads : ReadsRequest (take 8192 (tick_of there)) head []
unfolding digits line field request_line head_end print_request
reads = (head_so, refl)

frames : framing_of head ≡ Ok (Sized 0)
unfolding trim_ows
frames = refl

asks : Asks (tick_of there) (request tick_path [])
asks = framed head [] (Sized 0) reads frames (all_there 0 (drop (length (print_request head)) (tick_of there)) (omega arith))

is_there : (to : PostTo) → to.host ≡ codes "node" → to.port ≡ 80 → to.path ≡ tick_path → there ≡ to
is_there to h p q = sym (λ i. record { host = h i; port = p i; path = q i })

pub ticks_ask : TicksAsk
ticks_ask = record {
  means = λ to h p q. subst (λ (t : PostTo). Means All (tick_of t) (Steps events.Tick)) (is_there to h p q) (is_request tick_path [] asks (ticks refl));
  waits = λ to h p q. subst (λ (t : PostTo). Waits (tick_of t) false) (is_there to h p q) (is_framed head [] (Sized 0) reads frames);
}
