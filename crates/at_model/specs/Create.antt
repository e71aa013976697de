-- CreateCoordinationContext: roots and subordinates.
use Rattle.std.specs.Prelude.{ℕ, List, [], ◌∷◌, ◌++◌, Option, Some, None, nat_lt, ◌&&◌, ◌+◌, if◌then◌else◌, bytes_eq, option_map, codes}
use Rattle.at_base.specs.declared.limits.TheConstants.{MOST_ITEMS}
use Rattle.at_base.specs.declared.fault.Fault.TheVariants.{CannotCreateContext}
use Rattle.at_base.specs.Numbers.{Numbers}
use Rattle.at_base.specs.IdText.{id_text}
use Rattle.at_base.specs.declared.epr.Epr.{Epr}
use Rattle.at_base.specs.declared.epr.Reply.{Reply}
use Rattle.at_base.specs.declared.epr.Reply.TheVariants as replies
use Rattle.at_base.specs.declared.notice.Kind.{Kind}
use Rattle.at_base.specs.declared.notice.Kind.TheVariants as kinds
use Rattle.at_base.specs.declared.message.Message.TheVariants as messages
use Rattle.at_base.specs.declared.message.Context.{Context}
use Rattle.at_base.specs.declared.message.Create.{Create}
use Rattle.at_base.specs.declared.target.Target.TheVariants as targets
use Rattle.at_base.specs.declared.event.Arrived.{Arrived}
use Rattle.at_base.specs.declared.event.Moment.{Moment}
use Rattle.at_base.specs.declared.outs.Post.{Post}
use Rattle.at_base.specs.declared.outs.Out.{Out}
use Rattle.at_base.specs.declared.outs.Out.TheVariants as outs
use Rattle.at_tables.specs.declared.cells.State.TheVariants as states
use Rattle.at_model.specs.Book.{Transaction, Link, Phase}
use Rattle.endpoints.specs.Addresses.{protocol_of, atomic, or_else}
use Rattle.at_model.specs.Posts.{register_post, accepted, replied, faulted}
use Rattle.at_model.specs.Arrivals.{context_of}

-- when something expires that came now
abbrev pub deadline_of : ℕ → Option ℕ → Option ℕ
deadline_of now expires = option_map (λ ms. now + ms) expires

-- The Identifier of a root (this project's profile).
abbrev pub identifier_of : List ℕ → Numbers → List ℕ
identifier_of base id = base ++ (codes "/t/" ++ id_text id)

-- A root: a transaction of the node's own (WS-Coordination 1.2, section 3.1).
abbrev pub new_root : Moment → Numbers → Create → Transaction
new_root m id c = record {
  id = id;
  identifier = identifier_of m.base id;
  superior = None;
  phase = Phase.Active;
  deadline = deadline_of m.now c.expires;
  sent = None;
  aborted = None;
  seats = [];
  completion = None;
}

-- Its own Expires, or else its superior's.
abbrev pub expires_under : Create → Context → Option ℕ
expires_under c current = or_else c.expires current.expires

abbrev pub new_link : Link
new_link = record { state = states.Registering; coordinator = None }

-- A subordinate: a transaction under the one of CurrentContext (WS-Coordination 1.2, section 3.1). It keeps the
-- superior's Identifier.
abbrev pub new_subordinate : Moment → Numbers → Arrived → Epr → Create → Context → Transaction
new_subordinate m id a reply c current = record {
  id = id;
  identifier = current.identifier;
  superior = Some (record {
    volatile = new_link;
    durable = new_link;
    request = Some (record {
      id = a.id;
      reply = reply;
      fault = a.fault;
      expires = expires_under c current;
      registration = current.registration;
    });
  });
  phase = Phase.Registering;
  deadline = deadline_of m.now (expires_under c current);
  sent = Some m.now;
  aborted = None;
  seats = [];
  completion = None;
}

-- Its Register for a link.
abbrev pub link_register : List ℕ → Numbers → Kind → Epr → Post
link_register base id kind to = register_post base (targets.Participant id kind) (protocol_of kind) to

abbrev pub subordinate_posts : Moment → Numbers → Context → List Out
subordinate_posts m id current =
    outs.Post (link_register m.base id kinds.Volatile current.registration)
    ∷ outs.Post (link_register m.base id kinds.Durable current.registration) ∷ []

-- What a Create gives: the transaction that it made, or none, and what is sent.
pub record Creation : Type 0 where
  pub transaction : Option Transaction
  pub outs : List Out

abbrev pub refuse_create : Arrived → Creation
refuse_create a = record { transaction = None; outs = faulted a.fault a.id CannotCreateContext }

abbrev pub create_root : Moment → Numbers → Arrived → Create → Creation
create_root m id a c = record {
  transaction = Some (new_root m id c);
  outs = replied a.reply a.id (messages.CreateResponse (context_of m.base (new_root m id c) c.expires));
}

-- A subordinate answers only once it is registered, so its request needs an endpoint to answer to.
unfoldable pub create_under : Moment → Numbers → Arrived → Create → Context → Reply → Creation
create_under m id a c current (replies.At reply) = record {
  transaction = Some (new_subordinate m id a reply c current);
  outs = accepted ++ subordinate_posts m id current;
}
create_under m id a c current other = refuse_create a

unfoldable pub create_in : Moment → Numbers → Arrived → Create → Option Context → Creation
create_in m id a c None = create_root m id a c
create_in m id a c (Some current) = create_under m id a c current a.reply

-- CreateCoordinationContext: refused for another coordination type, where 1,024 transactions live, and where the node
-- has no id left (WS-Coordination 1.2, section 3.1).
unfoldable pub on_create : Moment → ℕ → Arrived → Create → Option Numbers → Creation
on_create m live a c None = refuse_create a
on_create m live a c (Some id) =
    if bytes_eq c.coordination atomic && nat_lt live MOST_ITEMS then create_in m id a c c.current else refuse_create a
