-- The envelope of a Prepare that a coordinator's seat sends to a participant, byte by byte.
use Rattle.std.specs.Prelude.{ℕ, List, ◌≡◌, refl, Some, None, codes, length}
use Rattle.xml_profile.specs.declared.tree.Tree.{Tree}
use Rattle.soap_profile.specs.Envelopes.{envelope_tree}
use Rattle.at_base.specs.declared.epr.Reply.TheVariants as replies
use Rattle.at_base.specs.declared.message.Message.TheVariants as messages
use Rattle.at_base.specs.declared.notice.Notice.TheVariants as notices
use Rattle.at_base.specs.declared.outs.Post.{Post}
use Rattle.addressing.specs.declared.writer.OutgoingHeaders.{OutgoingHeaders}
use Rattle.addressing.specs.Endpoints.{nobody}
use Rattle.addressing.specs.OutgoingHeaders.{blocks_of, endpoint_with}
use Rattle.endpoints.specs.declared.form.Form.TheVariants as forms
use Rattle.wire_msgs.specs.Forms.{action_of}
use Rattle.wire_posts.specs.Envelopes.{IsEnvelopeOf, IsTextOf, addressed, empty_tree}

abbrev participant : List ℕ
participant = codes "http://n3.example/p/d/1-1"

abbrev seat : List ℕ
seat = codes "http://n2.example/c/d/1-1/1"

abbrev pub prepare : Post
prepare =
    record {
      own = None;
      to = Some (addressed participant);
      id = None;
      relates = None;
      from = Some (addressed seat);
      reply = Some replies.Nobody;
      message = messages.Notice notices.Prepare;
    }

abbrev pub prepare_text : List ℕ
prepare_text = codes "<s:Envelope xmlns:s=\"http://schemas.xmlsoap.org/soap/envelope/\" xmlns:wsa=\"http://www.w3.org/2005/08/addressing\" xmlns:wsat=\"http://docs.oasis-open.org/ws-tx/wsat/2006/06\"><s:Header><wsa:To>http://n3.example/p/d/1-1</wsa:To><wsa:Action>http://docs.oasis-open.org/ws-tx/wsat/2006/06/Prepare</wsa:Action><wsa:From><wsa:Address>http://n2.example/c/d/1-1/1</wsa:Address></wsa:From><wsa:ReplyTo><wsa:Address>http://www.w3.org/2005/08/addressing/none</wsa:Address></wsa:ReplyTo></s:Header><s:Body><wsat:Prepare/></s:Body></s:Envelope>"

pub prepare_length : length prepare_text ≡ 528
prepare_length = refl

abbrev said : OutgoingHeaders
said =
    record {
      to = Some (endpoint_with participant None);
      action = action_of (forms.Notice notices.Prepare);
      id = None;
      relates = None;
      from = Some (endpoint_with seat None);
      reply = Some (endpoint_with nobody None);
      context = None;
    }

abbrev tree : Tree
tree = envelope_tree (blocks_of said) (empty_tree (forms.Notice notices.Prepare))

prepare_tree : IsEnvelopeOf prepare tree
prepare_tree =
    record {
      headers = said;
      body = empty_tree (forms.Notice notices.Prepare);
      headed = record { to = refl; action = refl; id = refl; relates = refl; from = refl; reply = refl; context = tt };
      said = refl;
      whole = refl;
    }

pub prepare_is_written : IsTextOf prepare prepare_text
prepare_is_written = record { tree = tree; of = prepare_tree; whole = refl }
