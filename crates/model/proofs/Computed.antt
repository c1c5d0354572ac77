-- One name that opens every definition, for answers that are computed.
use Rattle.lists.specs.Lists.{every, within, row, all, any, keep, empty, below, all_below, any_below, count_below, max_below, head, member, times, distinct, concat_map, insert_by, sort_into, sort_by, splice, part, same}
use Rattle.model.specs.Tests.{first_failed}
use Rattle.model.specs.Sizes.{limits, bucket_size, body, flash_size, spare_size, disk_size, lengths, page_index, pages_for}
use Rattle.model.specs.Stores.{apply, apply_all, tag_of, bucket_bytes, disk_bytes, page_bytes, unit_store, unit_stores}
use Rattle.model.specs.Spare.{two, four, blank, kind, spoiled, programmed, ordinal, pages, epoch, back, offset, extent, zeros, tag_bytes, entry_tag}
use Rattle.model.specs.Image.{continues, shares, spans_bucket, fields_fit, head_to, head_tag, page_spoiled, begins_log, continues_log, page_fits, is_packed, packed, bucket_fits, used, epoch_of, body_fits, back_of, is_write, is_copy, is_dirty, page_programmed, complete, page_blank, blanks, ends_log, log_bytes, merge_to, merge}
use Rattle.model.specs.Ledger.{ledger_tag, is_entry, entry_fits, entries_fit, well_formed, holds_epoch, names, named, first_of, first_tag, loose_fits, found_fits, occupied, first_epoch, recoverable, one_in_use, in_use, other_of}
use Rattle.model.specs.State.{stopped, moved, entry, with_priority, with_mark, is_of, holds, record_of, cache_of, blank_of, caches_of, is_marked, remarked, is_other, without, cache_bucket, back_bucket, caches, backs, queued, is_below, once_in, each_once, read_agrees, count_agrees, write_agrees, all_blank, mark_fits, entry_epoch, top_epoch, state_fits}
use Rattle.model.specs.Steps.{nothing, ◌then◌, move, freed, taken, drop_write, take_copy, log_store, log_stores, base_bytes, merged, entry_store, entry_stores, noted_erase, erase_step, make_room, fill_copy, copy, write_out, evict}
use Rattle.model.specs.Operations.{halved, prioritised, recorded, counted, accept, take_write, goes_first, least_of, victim, fits, outgoing, evict_any, make_way, append_log, start_log, write, touch, is_current, set_mark, without_oldest, drop_oldest, make_place, read_copy, read, unclean, drain_stores, is_unclean, is_clean, drained, drain, format}
use Rattle.model.specs.Recover.{buckets, by_epoch, is_newer, among_newest, newest, is_write_of, is_copy_of, gives_way, is_chosen, is_chosen_of, chosen, is_no_other, is_only, is_old_copy, merge_all, recovered, is_free, is_spent, is_unsaved_of, kept_read, kept_write, kept_writes, is_dropped_write, flushed, is_remaining, kept_copies, is_dropped_copy, unsaved, is_rescued, rescued, rescue_stores, rebuilt, swept, recover}
use Rattle.model.specs.Calls.{answer_byte, is_done, lent_tests, running_tests, range_fits, place_tests, tests, refusal, sizes_of, plan_of, done_answer, lent_buffer, read_buffer, carry_out, turned_down, call, look_tests, look_answer, look_bytes}
use Rattle.model.specs.Driving.{digit_value, is_digit, digit, bytes_of, digits_of, operation, allowance, frame_fits, line_fits, format_sizes, call_of, at_start, too_large, lend, give_back, shown, printed, no_call, settled, format_line, call_line, on_line, lines_from, lines_of, on_lines, output}

unfoldable pub computed : Unit {0}
unfolding every within row all any keep empty below all_below any_below count_below max_below head member times distinct concat_map insert_by sort_into sort_by splice part same first_failed limits bucket_size body flash_size spare_size disk_size lengths page_index pages_for apply apply_all tag_of bucket_bytes disk_bytes page_bytes unit_store unit_stores two four blank kind spoiled programmed ordinal pages epoch back offset extent zeros tag_bytes entry_tag continues shares spans_bucket fields_fit head_to head_tag page_spoiled begins_log continues_log page_fits is_packed packed bucket_fits used epoch_of body_fits back_of is_write is_copy is_dirty page_programmed complete page_blank blanks ends_log log_bytes merge_to merge ledger_tag is_entry entry_fits entries_fit well_formed holds_epoch names named first_of first_tag loose_fits found_fits occupied first_epoch recoverable one_in_use in_use other_of stopped moved entry with_priority with_mark is_of holds record_of cache_of blank_of caches_of is_marked remarked is_other without cache_bucket back_bucket caches backs queued is_below once_in each_once read_agrees count_agrees write_agrees all_blank mark_fits entry_epoch top_epoch state_fits nothing ◌then◌ move freed taken drop_write take_copy log_store log_stores base_bytes merged entry_store entry_stores noted_erase erase_step make_room fill_copy copy write_out evict halved prioritised recorded counted accept take_write goes_first least_of victim fits outgoing evict_any make_way append_log start_log write touch is_current set_mark without_oldest drop_oldest make_place read_copy read unclean drain_stores is_unclean is_clean drained drain format buckets by_epoch is_newer among_newest newest is_write_of is_copy_of gives_way is_chosen is_chosen_of chosen is_no_other is_only is_old_copy merge_all recovered is_free is_spent is_unsaved_of kept_read kept_write kept_writes is_dropped_write flushed is_remaining kept_copies is_dropped_copy unsaved is_rescued rescued rescue_stores rebuilt swept recover answer_byte is_done lent_tests running_tests range_fits place_tests tests refusal sizes_of plan_of done_answer lent_buffer read_buffer carry_out turned_down call look_tests look_answer look_bytes digit_value is_digit digit bytes_of digits_of operation allowance frame_fits line_fits format_sizes call_of at_start too_large lend give_back shown printed no_call settled format_line call_line on_line lines_from lines_of on_lines output
computed = tt
