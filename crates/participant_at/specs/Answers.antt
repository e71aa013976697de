-- How a Work is answered (this project's profile).
use Rattle.at_base.specs.declared.message.Message.{Message}
use Rattle.at_base.specs.declared.message.Message.TheVariants as messages
use Rattle.participant_at.specs.declared.posts.Answer.{Answer}
use Rattle.participant_at.specs.declared.posts.Answer.TheVariants as answers

abbrev pub answer_message : Answer → Message
answer_message answers.Done = messages.WorkDone
answer_message answers.Refused = messages.WorkRefused
