-- An event of the world that is nothing at its node changes nothing.
use Rattle.std.specs.Prelude.{ℕ, List, ◌≡◌, Option, Some, None, option_map}
use Rattle.std.proofs.Common.{sym, ap, subst, ◌∙◌}
use Rattle.at_model.specs.Book.{Book}
use Rattle.at_model.specs.World.{Ask, Crash, Node as Known, Turn, Up, World, WorldEvent, ask, at_node, at_some_node, down_only, goes_down, node_of, nth, on_book, start, turn, world_step}
use Rattle.memory_net.specs.Mails.{Mail}
use Rattle.memory_net.specs.declared.host.Host.{Host}
use Rattle.node_at.specs.State.{State, seen}
use Rattle.node_at.specs.declared.node.Node.{Node}
use Rattle.mirrored_nets.specs.Goings.{IsNothing}
use Rattle.mirrored_nets.specs.Mirrors.{Mirrors}

-- the book of a node of the world
abbrev book_of : Option Node → Option Book
book_of node = option_map (λ (n : State). n.book) (option_map seen node)

nothing_at : (e : WorldEvent) (node : Option Node) (x : Known) (w : World) → x.book ≡ book_of node → IsNothing e node → at_node e x w ≡ w
nothing_at (Turn n input fates until) None x w book h = ap (λ o. on_book o (λ b. turn n input fates until x b w) w) book
nothing_at (Turn n input fates until) (Some node) x w book h = absurd h
nothing_at (Ask n l fates until) None x w book h = ap (λ o. on_book o (λ b. ask n l fates until x b w) w) book
nothing_at (Ask n l fates until) (Some node) x w book h = absurd h
nothing_at (Crash n) None x w book h = ap (λ o. on_book o (λ b. goes_down n b w) w) book
nothing_at (Crash n) (Some node) x w book h = absurd h
nothing_at (Up n landed stop) None x w book h = absurd h
nothing_at (Up n landed stop) (Some node) x w book h = ap (λ o. down_only o (start n landed stop x w) w) book

pub stays : (e : WorldEvent) (node : Option Node) (x : Known) (w : World) → nth (node_of e) w.nodes ≡ Some x → x.book ≡ book_of node → IsNothing e node → world_step w e ≡ w
unfolding world_step
stays e node x w found book h = ap (λ o. at_some_node e o w) found ∙ nothing_at e node x w book h

pub unmoved : (count : ℕ) (hosts : List Host) (clocks : List ℕ) (mails : List Mail) (w : World) (e : WorldEvent) (h : Host) → Mirrors count hosts clocks mails w → nth (node_of e) hosts ≡ Some h
    → IsNothing e h.node → Mirrors count hosts clocks mails (world_step w e)
unmoved count hosts clocks mails w e h M here nothing =
    let hold = M.stands.holds (node_of e) h here in
    let (x, found, stands) = M.world.nodes (node_of e) hold.place hold.here in
    subst (Mirrors count hosts clocks mails)
    (sym (stays e h.node x w found (stands.book ∙ ap (option_map (λ (n : State). n.book)) hold.node) nothing)) M
