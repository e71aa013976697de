-- Words that are a job, that ask, and that are faulty.
use Rattle.std.proofs.Common.{◌≡◌, [], ◌∷◌, codes, false, refl, true}
use Rattle.std.specs.Fmt.{digits}
use Rattle.at_tables.specs.declared.cells.State.TheVariants as states
use Rattle.clap.specs.Faults.{fault_of}
use Rattle.clap.specs.declared.error.kind.ErrorKind.TheVariants.{InvalidSubcommand, MissingRequiredArgument, MissingSubcommand, UnknownArgument}
use Rattle.clap.proofs.OnLiterals.{clap_on_literals}
use Rattle.url.proofs.OnLiterals.{url_on_literals}
use Rattle.command_line.specs.Commands.{whole}
use Rattle.command_line.specs.Jobs.{IsJobOf, IsQuestion, is_address}
use Rattle.command_line.specs.Jobs.Filter.{Cell, Check, Replay}
use Rattle.command_line.specs.Jobs.Job.{Audit, Filters, Make}

cell_in_state : IsJobOf (codes "cell" ∷ codes "--state" ∷ codes "None" ∷ []) (Filters (Cell states.None))
unfolding clap_on_literals
cell_in_state = (refl, (refl, refl))

check_at_the_root : IsJobOf (codes "check" ∷ []) (Filters (Check (codes "/")))
unfolding clap_on_literals
check_at_the_root = (refl, (refl, refl))

check_at_a_path : IsJobOf (codes "check" ∷ codes "--path=/work" ∷ []) (Filters (Check (codes "/work")))
unfolding clap_on_literals
check_at_a_path = (refl, (refl, refl))

replay : IsJobOf (codes "replay" ∷ []) (Filters (Replay (record { settle = false; bytes = false })))
unfolding clap_on_literals
replay = (refl, (refl, refl, refl))

replay_to_rest : IsJobOf (codes "replay" ∷ codes "--settle" ∷ []) (Filters (Replay (record { settle = true; bytes = false })))
unfolding clap_on_literals
replay_to_rest = (refl, (refl, refl, refl))

replay_with_bytes : IsJobOf (codes "replay" ∷ codes "--bytes" ∷ []) (Filters (Replay (record { settle = false; bytes = true })))
unfolding clap_on_literals
replay_with_bytes = (refl, (refl, refl, refl))

audit : IsJobOf (codes "audit" ∷ []) Audit
unfolding clap_on_literals
audit = (refl, refl)

make : IsJobOf (codes "make" ∷ codes "--seed" ∷ codes "18446744073709551615" ∷ codes "--steps=9999" ∷ []) (Make 18446744073709551615 9999)
unfolding clap_on_literals digits
make = (refl, (refl, (refl, refl)))

help_of_all : IsQuestion (codes "--help" ∷ [])
unfolding clap_on_literals
help_of_all = refl

help_of_one : IsQuestion (codes "check" ∷ codes "-h" ∷ [])
unfolding clap_on_literals
help_of_one = refl

version : IsQuestion (codes "--version" ∷ [])
unfolding clap_on_literals
version = refl

no_word : fault_of whole [] ≡ MissingSubcommand ∷ []
unfolding clap_on_literals
no_word = refl

no_state : fault_of whole (codes "cell" ∷ []) ≡ MissingRequiredArgument ∷ []
unfolding clap_on_literals
no_state = refl

unknown_option : fault_of whole (codes "check" ∷ codes "--state" ∷ codes "None" ∷ []) ≡ UnknownArgument ∷ []
unfolding clap_on_literals
unknown_option = refl

unknown_command : fault_of whole (codes "help" ∷ []) ≡ UnknownArgument ∷ InvalidSubcommand ∷ []
unfolding clap_on_literals
unknown_command = refl

no_such_option : fault_of whole (codes "replay" ∷ codes "--trace" ∷ []) ≡ UnknownArgument ∷ []
unfolding clap_on_literals
no_such_option = refl

no_seed : fault_of whole (codes "make" ∷ codes "--steps" ∷ codes "1" ∷ []) ≡ MissingRequiredArgument ∷ []
unfolding clap_on_literals
no_seed = refl

no_url : fault_of whole (codes "tick" ∷ []) ≡ MissingRequiredArgument ∷ []
unfolding clap_on_literals
no_url = refl

an_address : is_address (codes "127.0.0.1:9001") ≡ true
unfolding url_on_literals
an_address = refl

an_address_in_brackets : is_address (codes "[::1]:9001") ≡ true
unfolding url_on_literals
an_address_in_brackets = refl

the_port_of_http : is_address (codes "h:80") ≡ true
unfolding url_on_literals
the_port_of_http = refl

no_port : is_address (codes "h") ≡ false
unfolding url_on_literals
no_port = refl

port_0 : is_address (codes "h:0") ≡ false
unfolding url_on_literals
port_0 = refl

a_path : is_address (codes "h/x:1") ≡ false
unfolding url_on_literals
a_path = refl
