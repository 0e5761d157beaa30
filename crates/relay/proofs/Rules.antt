-- The rules that a test opens which is computed whole: to unfold `rules` is to unfold each of them.
use Rattle.relay.specs.Clock.{behind}
use Rattle.relay.specs.Events.{reverse_refusal, reversed, normal_refusal, normal, passed, struck, announce_refusal, announced, release_refusal, garage_refusal, released, garaged, release_under_way, under_way_refusal, arrived, lost, restore_refusal, restored, jammed, freed, lacks, jam_hinders, nothing_to_free, own_refusal, refusal, changed}
use Rattle.relay.specs.Kinds.{is_short, ordinary, has_signal_pedal, has_passage_pedal, has_garage_release, blocks_at_pedal, blocks_at_announcement, between, count_fits, kind_fits, kinds_fit, table_ok}
use Rattle.relay.specs.Line.{fresh_line, startable, start_of, numbered, names_section, present, neighbour, gate, answer_of, changed_line, event_of}
use Rattle.relay.specs.Posts.{fresh_word, fresh_post}
use Rattle.relay.specs.Relays.{up, raise, lower}
use Rattle.relay.specs.Valid.{no_other_bits, stays_down, held_is_locked, pedal_blocks, announcement_blocks, open_is_reversed, passage_is_announced, word_ok, stays_zero, counts_within, post_ok, holds, announcements_agree, releases_agree, recorded_agree, passages_agree, garage_within, one_at_most, section_ok, posts_ok, sections_from, sections_ok, valid}

-- every rule of an event and of a line that may be used
unfoldable pub rules : Unit {0}
unfolding up raise lower fresh_word fresh_post fresh_line startable start_of behind numbered names_section present neighbour gate
    answer_of changed_line event_of is_short ordinary has_signal_pedal has_passage_pedal has_garage_release blocks_at_pedal blocks_at_announcement between
    count_fits kind_fits kinds_fit table_ok no_other_bits stays_down held_is_locked pedal_blocks announcement_blocks open_is_reversed
    passage_is_announced word_ok stays_zero counts_within post_ok holds announcements_agree releases_agree recorded_agree
    passages_agree garage_within one_at_most section_ok posts_ok sections_from sections_ok valid reverse_refusal reversed
    normal_refusal normal passed struck announce_refusal announced release_refusal garage_refusal released garaged
    release_under_way under_way_refusal arrived lost restore_refusal restored jammed freed lacks jam_hinders nothing_to_free own_refusal
    refusal changed
rules = tt
