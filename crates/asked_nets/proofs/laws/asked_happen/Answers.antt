use Rattle.asked_nets.proofs.ReadMoves.{asked_happen}
use Rattle.asked_nets.proofs.laws.asked_happen.Goals as goal

pub returns : goal.returns
returns c =
    asked_happen (record {
      net =
          record {
            tell = c.hosts_tell_receivers.ensures;
            bases = c.examples_are_node_bases.ensures;
            closes = c.stays_closed.ensures;
            nets = c.serve_as_nets.ensures;
            crashes = c.crashes_are_met.ensures;
            calls = c.calls_post.ensures;
            images = c.chosen_are_images.ensures;
            bodies = c.are_bodies.ensures;
            grows = c.grows_by_one.ensures;
            shrinks = c.shrinks_the_same.ensures;
            restarts = c.restarts_on_records.ensures;
          };
      turn =
          record {
            addressed = c.posts_are_addressed.ensures;
            reply = c.steps_reply.ensures;
            pass = c.steps_pass_on.ensures;
            place = c.steps_keep_place.ensures;
            paths = c.paths_name_targets.ensures;
            own = c.nodes_own_is_deliverable.ensures;
            turns = c.turns_are_events.ensures;
            says = c.posts_say.ensures;
            quiet = c.posts_dont_wait.ensures;
            ticks = c.ticks_ask.ensures;
            one = c.bytes_mean_one_thing.ensures;
            wait_or_not = c.bytes_wait_or_not.ensures;
            small = c.bare_are_in_limits.ensures;
            no_messages = c.are_no_messages.ensures;
          };
      anew =
          record {
            crash = c.starts_are_events.ensures;
            answer = c.turns_answer_so.ensures;
            agree = c.effects_agree.ensures;
            hold = c.links_hold.ensures;
            ask = c.readings_ask.ensures;
          };
      mirror = c.nets_mirror.ensures;
      turns_tell = c.turns_tell.ensures;
      asked_tell = c.asked_tell.ensures;
      requests = c.requests_are_events.ensures;
      ask_so = c.examples_ask_so.ensures;
    })
