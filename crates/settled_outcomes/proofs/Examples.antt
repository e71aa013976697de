-- The worked runs end at rest, by computation.
use Rattle.std.specs.Prelude.{refl}
use Rattle.at_model.specs.Abort.{abort}
use Rattle.at_model.specs.Phases.{decided, committed, root_answered, voted, sub_answered, go_durable, volatile_answered, all_committed, advance_in, go_volatile}
use Rattle.at_model.specs.Arrivals.{seat_act, seat_notice, commit_voted, link_act, link_notice, completion_act, completion_notice, link_registered, link_fault, on_link, on_seat, on_completion}
use Rattle.at_model.specs.Register.{accept, register_new, register_again, on_register, register_unknown}
use Rattle.at_model.specs.Create.{create_under, create_in, on_create}
use Rattle.at_model.specs.Leaves.{leaf_votes, leaf_commit, leaf_roll_back, leaf_act, leaf_notice, leaf_registered, leaf_fault, on_leaf, on_work}
use Rattle.at_model.specs.Activities.{activity_act, activity_notice, activity_created, activity_registered, activity_fault, on_activity, on_begin, on_interpose, on_ask, on_complete}
use Rattle.at_model.specs.Due.{transaction_reached, leaf_reached, activity_reached}
use Rattle.at_model.specs.Step.{activation_plan, registration_plan, completion_plan, coordinator_plan, participant_plan, initiator_plan, work_plan, arrived_plan, request_plan, due_plan}
use Rattle.at_model.specs.World.{world_step}
use Rattle.sha1.specs.Sha1.{sha1, first_words, schedule, rounds, compress, hash_after, digest_bytes}
use Rattle.uuid.specs.Text.{by_index}
use Rattle.std.specs.Fmt.{digits}
use Rattle.settled_outcomes.specs.Examples.{ExamplesSettle}

pub examples_settle : ExamplesSettle
unfolding abort decided committed root_answered voted sub_answered go_durable volatile_answered all_committed advance_in go_volatile seat_act seat_notice commit_voted link_act link_notice completion_act completion_notice link_registered link_fault on_link on_seat on_completion accept register_new register_again on_register register_unknown create_under create_in on_create leaf_votes leaf_commit leaf_roll_back leaf_act leaf_notice leaf_registered leaf_fault on_leaf on_work activity_act activity_notice activity_created activity_registered activity_fault on_activity on_begin on_interpose on_ask on_complete transaction_reached leaf_reached activity_reached activation_plan registration_plan completion_plan coordinator_plan participant_plan initiator_plan work_plan arrived_plan request_plan due_plan world_step sha1 first_words schedule rounds compress hash_after digest_bytes by_index digits
examples_settle = record { commits = refl; leaves = refl; aborts = refl }
