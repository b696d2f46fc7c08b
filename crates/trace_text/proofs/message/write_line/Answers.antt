use Rattle.std.proofs.Common.{append_assoc}
use Rattle.trace_text.proofs.message.write_line.Goals as goal

pub returns-in-BadWords : goal.returns-in-BadWords
returns-in-BadWords g c = rw c.in-BadWords.is c.write_all.ensures

pub returns-in-BadLine : goal.returns-in-BadLine
returns-in-BadLine g c = rw c.in-BadLine.is (simp append_assoc c.write_bad_line.ensures)

pub returns-in-TooLong : goal.returns-in-TooLong
returns-in-TooLong g c = rw c.in-TooLong.is c.write_all-in-TooLong.ensures

pub returns-in-HeapTooSmall : goal.returns-in-HeapTooSmall
returns-in-HeapTooSmall g c = rw c.in-HeapTooSmall.is c.write_all-in-HeapTooSmall.ensures

pub returns-in-ReadFault : goal.returns-in-ReadFault
returns-in-ReadFault g c = rw c.in-ReadFault.is c.write_all-in-ReadFault.ensures

pub returns-in-NoMemory : goal.returns-in-NoMemory
returns-in-NoMemory g c = rw c.in-NoMemory.is c.write_all-in-NoMemory.ensures

pub returns-in-Churn : goal.returns-in-Churn
returns-in-Churn g c = rw c.in-Churn.is c.write_churn.ensures

pub returns-in-Queue : goal.returns-in-Queue
returns-in-Queue g c = rw c.in-Queue.is c.write_queue.ensures

pub returns-in-Yes : goal.returns-in-Yes
returns-in-Yes g c = rw c.in-Yes.is c.write_all-in-Yes.ensures

pub returns-in-NoEntry : goal.returns-in-NoEntry
returns-in-NoEntry g c = rw c.in-NoEntry.is (simp append_assoc c.write_told.ensures)

pub returns-in-NoScript : goal.returns-in-NoScript
returns-in-NoScript g c = rw c.in-NoScript.is (simp append_assoc c.write_told-in-NoScript.ensures)

pub returns-in-NoText : goal.returns-in-NoText
returns-in-NoText g c = rw c.in-NoText.is c.write_all-in-NoText.ensures
